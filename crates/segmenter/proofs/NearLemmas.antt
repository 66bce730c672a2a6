-- Times and their differences, by their bits.
use Rattle.std.proofs.Common.{◌≡◌, ℤ, pos, negsuc, ◌+ℤ◌, ◌-ℤ◌, ◌≤ℤ◌, ◌-◌, ◌^◌, arith, ap, ◌∙◌, sym, subst, w64, of_z, to_z, SFits, Option, Some}
use Rattle.std.proofs.lemmas.Int.{to_z-of_z, ints}
use Rattle.playlist.specs.declared.list.ListEntry.{ListEntry}
use Rattle.playlist.specs.List.{IsInRange}
use Rattle.rmx_media.specs.declared.packet.Format.{Format}
use Rattle.rmx_media.specs.declared.packet.Packet.{Packet}
use Rattle.rmx_media.specs.declared.streams.MuxStreams.{MuxStreams}
use Rattle.rmx_media.specs.Fits.{FitsLowered}
use Rattle.segmenter.specs.Near.{IsNear, IsSpan, since}
use Rattle.segmenter.specs.Times.{lowered_by}

near_fits : (z : ℤ) → IsNear z → SFits w64 z
near_fits (pos n) h = let high : pos n ≤ℤ pos (2 ^ 39) = h.high in record { sfits = omega (arith, ints) }
near_fits (negsuc n) h = let low : negsuc (2 ^ 39 - 1) ≤ℤ negsuc n = h.low in record { sfits = omega (arith, ints) }

span_fits : (z : ℤ) → IsSpan z → SFits w64 z
span_fits (pos n) h = let high : pos n ≤ℤ pos (2 ^ 40) = h.high in record { sfits = omega (arith, ints) }
span_fits (negsuc n) h = let low : negsuc (2 ^ 40 - 1) ≤ℤ negsuc n = h.low in record { sfits = omega (arith, ints) }

span_of : (a b : ℤ) → IsNear a → IsNear b → IsSpan (a -ℤ b)
span_of a b h k =
    let a_low : negsuc (2 ^ 39 - 1) ≤ℤ a = h.low in
    let a_high : a ≤ℤ pos (2 ^ 39) = h.high in
    let b_low : negsuc (2 ^ 39 - 1) ≤ℤ b = k.low in
    let b_high : b ≤ℤ pos (2 ^ 39) = k.high in
    record { low = omega (arith, ints); high = omega (arith, ints) }

near_bits : (z : ℤ) → IsNear z → to_z w64 (of_z w64 z) ≡ z
near_bits z h = to_z-of_z w64 z (near_fits z h)

pub span_bits : (z : ℤ) → IsSpan z → to_z w64 (of_z w64 z) ≡ z
span_bits z h = to_z-of_z w64 z (span_fits z h)

bits_less : (a b : ℤ) → IsNear a → IsNear b → to_z w64 (of_z w64 a) -ℤ to_z w64 (of_z w64 b) ≡ a -ℤ b
bits_less a b h k = ap (λ (z : ℤ). z -ℤ to_z w64 (of_z w64 b)) (near_bits a h) ∙ ap (λ (z : ℤ). a -ℤ z) (near_bits b k)

-- the difference, as the code has it
pub less_fits : (a b : ℤ) → IsNear a → IsNear b → SFits w64 (to_z w64 (of_z w64 a) -ℤ to_z w64 (of_z w64 b))
less_fits a b h k = subst (λ (z : ℤ). SFits w64 z) (sym (bits_less a b h k)) (span_fits (a -ℤ b) (span_of a b h k))

pub less_is : (a b : ℤ) → IsNear a → IsNear b → to_z w64 (of_z w64 (to_z w64 (of_z w64 a) -ℤ to_z w64 (of_z w64 b))) ≡ a -ℤ b
less_is a b h k = ap (λ (z : ℤ). to_z w64 (of_z w64 z)) (bits_less a b h k) ∙ span_bits (a -ℤ b) (span_of a b h k)

pub less_spans : (a b : ℤ) → IsNear a → IsNear b → IsSpan (to_z w64 (of_z w64 (to_z w64 (of_z w64 a) -ℤ to_z w64 (of_z w64 b))))
less_spans a b h k = subst IsSpan (sym (less_is a b h k)) (span_of a b h k)

pub since_some : (zero : Option ℤ) (z pts : ℤ) → zero ≡ Some z → pts -ℤ z ≡ since zero pts
since_some zero z pts e = ap (λ (o : Option ℤ). since o pts) (sym e)

-- an entry of times that are differences
pub entry_in_range : (e : ListEntry) → IsSpan e.start_ms → IsSpan e.end_ms → IsInRange e
entry_in_range e h k =
    let start_low : negsuc (2 ^ 40 - 1) ≤ℤ e.start_ms = h.low in
    let start_high : e.start_ms ≤ℤ pos (2 ^ 40) = h.high in
    let end_low : negsuc (2 ^ 40 - 1) ≤ℤ e.end_ms = k.low in
    let end_high : e.end_ms ≤ℤ pos (2 ^ 40) = k.high in
    record { start_above = start_low; start_below = start_high; end_above = end_low; end_below = end_high }

pub bits_span : (z : ℤ) → IsSpan z → IsSpan (to_z w64 (of_z w64 z))
bits_span z h = subst IsSpan (sym (span_bits z h)) h

abbrev pub less_bits : ℤ → ℤ → ℤ
less_bits a b = to_z w64 (of_z w64 (to_z w64 (of_z w64 a) -ℤ to_z w64 (of_z w64 b)))

less_bits_is : (a b : ℤ) → SFits w64 a → SFits w64 b → SFits w64 (a -ℤ b) → less_bits a b ≡ a -ℤ b
less_bits_is a b h k l = ap (λ (z : ℤ). to_z w64 (of_z w64 (z -ℤ to_z w64 (of_z w64 b)))) (to_z-of_z w64 a h) ∙ ap (λ (z : ℤ). to_z w64 (of_z w64 (a -ℤ z))) (to_z-of_z w64 b k) ∙ to_z-of_z w64 (a -ℤ b) l

wide_fits : (z : ℤ) → negsuc 8589934591 ≤ℤ z → z ≤ℤ pos 8598323199 → SFits w64 z
wide_fits (pos n) low high = record { sfits = omega (arith, ints) }
wide_fits (negsuc n) low high = record { sfits = omega (arith, ints) }

pub dts_fits : (f : Format) (streams : MuxStreams) (p : Packet) → FitsLowered f streams p → SFits w64 p.dts
dts_fits f streams p h = let low : negsuc 8589934591 ≤ℤ p.dts = h.low in let high : p.dts ≤ℤ pos 8589934592 = h.high in wide_fits p.dts low (omega (arith, ints))

pub pts_fits : (f : Format) (streams : MuxStreams) (p : Packet) → FitsLowered f streams p → SFits w64 p.pts
pts_fits f streams p h =
    let low : negsuc 8589934591 ≤ℤ p.dts = h.low in
    let high : p.dts ≤ℤ pos 8589934592 = h.high in
    let early : p.dts ≤ℤ p.pts = h.all.early in
    let late : p.pts ≤ℤ (p.dts +ℤ pos 8388607) = h.all.late in
    wide_fits p.pts (omega (arith, ints)) (omega (arith, ints))

-- a packet at times that were computed is the packet with its times lowered
pub lowered_is : (f : Format) (streams : MuxStreams) (p : Packet) (by : ℤ) → SFits w64 by → FitsLowered f streams p → FitsLowered f streams (lowered_by (Some by) p)
    → record p { dts = less_bits p.dts by; pts = less_bits p.pts by } ≡ lowered_by (Some by) p
lowered_is f streams p by b h k =
    let dts : less_bits p.dts by ≡ p.dts -ℤ by = less_bits_is p.dts by (dts_fits f streams p h) b (dts_fits f streams (lowered_by (Some by) p) k) in
    let pts : less_bits p.pts by ≡ p.pts -ℤ by = less_bits_is p.pts by (pts_fits f streams p h) b (pts_fits f streams (lowered_by (Some by) p) k) in
    ap (λ (z : ℤ). record p { dts = z; pts = less_bits p.pts by }) dts ∙ ap (λ (z : ℤ). record p { dts = p.dts -ℤ by; pts = z }) pts
