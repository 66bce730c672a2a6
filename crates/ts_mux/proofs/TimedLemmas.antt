-- Packets at other times, by the bits of the times.
use Rattle.std.proofs.Common.{◌≡◌, ℤ, ap, ◌∙◌, w64, of_z, to_z, SFits}
use Rattle.std.proofs.lemmas.Int.{to_z-of_z}
use Rattle.rmx_media.specs.declared.packet.Packet.{Packet}
use Rattle.ts_mux.specs.Timed.{at_times}

pub times_kept : (p : Packet) (dts pts : ℤ) → SFits w64 dts → SFits w64 pts → at_times (to_z w64 (of_z w64 dts)) (to_z w64 (of_z w64 pts)) p ≡ at_times dts pts p
times_kept p dts pts d e =
    ap (λ (z : ℤ). at_times z (to_z w64 (of_z w64 pts)) p) (to_z-of_z w64 dts d) ∙ ap (λ (z : ℤ). at_times dts z p) (to_z-of_z w64 pts e)

-- a packet at its own times is itself
pub own_times : (p : Packet) → SFits w64 p.dts → SFits w64 p.pts → at_times (to_z w64 (of_z w64 p.dts)) (to_z w64 (of_z w64 p.pts)) p ≡ p
own_times p d e = times_kept p p.dts p.pts d e
