-- Packets of tests fit.
use Rattle.std.proofs.Common.{◌≡◌, arith, ap, ◌∙◌, sym, Some}
use Rattle.rmx_media.specs.declared.packet.Packet.{Packet}
use Rattle.rmx_media.specs.declared.packet.Format.TheVariants.{Adts}
use Rattle.rmx_media.specs.declared.streams.Kind.{Kind}
use Rattle.rmx_media.specs.declared.streams.Kind.TheVariants.{Audio}
use Rattle.rmx_media.specs.declared.streams.MuxStreams.{MuxStreams}
use Rattle.rmx_media.specs.Streams.{kind_in}
use Rattle.rmx_media.specs.Fits.{FitsLowered}
use Rattle.aac_adts.specs.Sample.{IsSample}

pub sample_fits : (m : MuxStreams) (p : Packet) → kind_in m.streams.items 1 ≡ Some Audio → IsSample p → FitsLowered Adts m p
sample_fits m p k s = record {
  all = record {
    stream = ap (kind_in m.streams.items) s.stream ∙ k ∙ ap (λ (x : Kind). Some x) (sym s.kind);
    config = s.config;
    payload = s.payload;
    size = let h = s.size in omega arith;
    early = s.early;
    late = s.late;
    suits = s.kind;
  };
  low = s.low;
  high = s.high;
}
