-- Packets of tests fit.
use Rattle.std.proofs.Common.{◌≡◌, ℕ, arith, ap, ◌∙◌, sym, Some}
use Rattle.rmx_media.specs.declared.packet.Packet.{Packet}
use Rattle.rmx_media.specs.declared.packet.Format.TheVariants.{Flv}
use Rattle.rmx_media.specs.declared.streams.Kind.{Kind}
use Rattle.rmx_media.specs.declared.streams.MuxStreams.{MuxStreams}
use Rattle.rmx_media.specs.Streams.{kind_in}
use Rattle.rmx_media.specs.Fits.{FitsLowered}
use Rattle.flv_mux.specs.Sample.{IsSample}

pub sample_fits : (m : MuxStreams) (stream : ℕ) (kind : Kind) (p : Packet) → kind_in m.streams.items stream ≡ Some kind → IsSample stream kind p → FitsLowered Flv m p
sample_fits m stream kind p k s = record {
  all = record {
    stream = ap (kind_in m.streams.items) s.of_stream ∙ k ∙ ap (λ (x : Kind). Some x) (sym s.of_kind);
    config = s.config;
    payload = s.payload;
    size = let h = s.size in omega arith;
    early = s.timed.early;
    late = s.timed.late;
    suits = (s.form, let h = s.size in omega arith);
  };
  low = s.timed.low;
  high = s.timed.high;
}
