-- Packets of tests fit.
use Rattle.std.proofs.Common.{◌≡◌, ◌≤◌, inl, inr, arith, ap, ◌∙◌, sym, Some, length}
use Rattle.std.specs.Prelude.{◌⊎◌}
use Rattle.rmx_media.specs.declared.packet.Format.{Format}
use Rattle.rmx_media.specs.declared.packet.Format.TheVariants.{Flv, Mpegts}
use Rattle.rmx_media.specs.declared.packet.Packet.{Packet}
use Rattle.rmx_media.specs.declared.streams.Kind.{Kind}
use Rattle.rmx_media.specs.declared.streams.MuxStreams.{MuxStreams}
use Rattle.rmx_media.specs.Streams.{kind_in}
use Rattle.rmx_media.specs.Fits.{Fits, Suits}
use Rattle.segmenter.specs.Sample.{IsSample}

suits : (f : Format) (kind : Kind) (p : Packet) → (f ≡ Mpegts) ⊎ (f ≡ Flv) → IsSample kind p → Suits f p
suits f kind p (inl e) s = rw e tt
suits f kind p (inr e) s = let h = s.size in let k : length p.payload ≤ 16777210 = omega arith in rw e (s.form, k)

pub sample_fits : (f : Format) (m : MuxStreams) (kind : Kind) (p : Packet) → (f ≡ Mpegts) ⊎ (f ≡ Flv) → kind_in m.streams.items 0 ≡ Some kind → IsSample kind p → Fits f m p
sample_fits f m kind p file k s = record {
  all = record {
    stream = ap (kind_in m.streams.items) s.stream ∙ k ∙ ap (λ (x : Kind). Some x) (sym s.of_kind);
    config = s.config;
    payload = s.payload;
    size = let h = s.size in omega arith;
    early = s.early;
    late = s.late;
    suits = suits f kind p file s;
  };
  low = s.low;
  high = s.high;
}
