-- Times that are lowered, one packet more.
use Rattle.std.proofs.Common.{◌≡◌, arith, Bool, true, false, List, [], ◌∷◌, ◌++◌, refl, ap, ◌∙◌, sym, subst, ℤ, pos, negsuc, ◌-ℤ◌, ◌+ℤ◌, ◌≤ℤ◌, Option, Some, None, w64, of_z, to_z, SFits}
use Rattle.std.proofs.lemmas.List.{map-append}
use Rattle.std.proofs.lemmas.Int.{ints, to_z-of_z}
use Rattle.rmx_media.specs.declared.packet.Format.{Format}
use Rattle.rmx_media.specs.declared.packet.Packet.{Packet}
use Rattle.rmx_media.specs.declared.streams.MuxStreams.{MuxStreams}
use Rattle.rmx_media.specs.declared.packet.Format.TheVariants.{Flv, Adts, Mpegts, Segment}
use Rattle.rmx_media.specs.Fits.{Suits, Fits, FitsLowered}
use Rattle.segmenter.specs.Near.{IsDts}
use Rattle.segmenter.specs.Times.{lowered_by, base_of, lowered}

-- the packets of a file with one more
pub lowered_push : (reset : Bool) (ps : List Packet) (p : Packet) → lowered reset (ps ++ p ∷ []) ≡ lowered reset ps ++ lowered_by (base_of reset (ps ++ p ∷ [])) p ∷ []
lowered_push reset [] p = refl
lowered_push reset (q ∷ qs) p = map-append (lowered_by (base_of reset (q ∷ qs))) (q ∷ qs) (p ∷ [])

-- what fits still does with its own times
pub fits_itself : (f : Format) (streams : MuxStreams) (p : Packet) → Fits f streams p → FitsLowered f streams p
fits_itself f streams p h = let low : negsuc 2147483647 ≤ℤ p.dts = h.low in let high : p.dts ≤ℤ pos 2147483647 = h.high in record { all = h.all; low = omega (arith, ints); high = omega (arith, ints) }

suits_same : (f : Format) (p : Packet) (dts pts : ℤ) → Suits f p → Suits f (record p { dts = dts; pts = pts })
suits_same Flv p dts pts h = h
suits_same Adts p dts pts h = h
suits_same Mpegts p dts pts h = h
suits_same Segment p dts pts h = h

-- and with its times lowered by the dts of a packet that fits
pub fits_lowered : (f : Format) (streams : MuxStreams) (p : Packet) (by : ℤ) → Fits f streams p → IsDts by → FitsLowered f streams (lowered_by (Some by) p)
fits_lowered f streams p by h b =
    let low : negsuc 2147483647 ≤ℤ p.dts = h.low in
    let high : p.dts ≤ℤ pos 2147483647 = h.high in
    let by_low : negsuc 2147483647 ≤ℤ by = b.low in
    let by_high : by ≤ℤ pos 2147483647 = b.high in
    let early : p.dts ≤ℤ p.pts = h.all.early in
    let late : p.pts ≤ℤ (p.dts +ℤ pos 8388607) = h.all.late in record {
      all = record {
        stream = h.all.stream;
        config = h.all.config;
        payload = h.all.payload;
        size = h.all.size;
        early = omega (arith, ints);
        late = omega (arith, ints);
        suits = suits_same f p (p.dts -ℤ by) (p.pts -ℤ by) h.all.suits;
      };
      low = omega (arith, ints);
      high = omega (arith, ints);
    }

pub none_yet : (reset : Bool) → None ≡ base_of reset []
none_yet true = refl
none_yet false = refl

dts_bits : (z : ℤ) → IsDts z → to_z w64 (of_z w64 z) ≡ z
dts_bits (pos n) h = let high : pos n ≤ℤ pos 2147483647 = h.high in let f : SFits w64 (pos n) = record { sfits = omega (arith, ints) } in to_z-of_z w64 (pos n) f
dts_bits (negsuc n) h = let low : negsuc 2147483647 ≤ℤ negsuc n = h.low in let f : SFits w64 (negsuc n) = record { sfits = omega (arith, ints) } in to_z-of_z w64 (negsuc n) f

-- a base as the code passes it
pub bits_dts : (z : ℤ) → IsDts z → IsDts (to_z w64 (of_z w64 z))
bits_dts z h = subst IsDts (sym (dts_bits z h)) h

pub base_is : (z : ℤ) (base : Option ℤ) → IsDts z → base ≡ Some z → Some (to_z w64 (of_z w64 z)) ≡ base
base_is z base h e = ap (λ (x : ℤ). Some x) (dts_bits z h) ∙ sym e
