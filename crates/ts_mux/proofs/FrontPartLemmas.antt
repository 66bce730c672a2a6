-- What stands before a payload, put together.
use Rattle.std.proofs.Common.{◌≡◌, ℕ, ℤ, pos, negsuc, ◌+◌, ◌-◌, ◌^◌, ◌≤ℤ◌, ◌%◌, ◌==◌, List, [], ◌∷◌, ◌++◌, length, refl, sym, ap, ◌∙◌, Bool, true, false, if◌then◌else◌, append_assoc, arith, w64, of_z, to_z, SFits, length-append}
use Rattle.std.specs.Prelude.{slice_index}
use Rattle.std.specs.Ordering.{int_eq}
use Rattle.std.proofs.lemmas.Int.{to_z-of_z, ints}
use Rattle.rmx_media.specs.declared.aac.AacConfig.{AacConfig}
use Rattle.rmx_media.specs.declared.packet.Packet.{Packet}
use Rattle.rmx_media.specs.declared.packet.Form.{Form}
use Rattle.rmx_media.specs.declared.packet.Form.TheVariants.{Native, AnnexB, Adts}
use Rattle.rmx_media.specs.Adts.{adts_head}
use Rattle.ts_mux.specs.Pes.{head_of, delimiter, delimited, frame_of, audio_pes}
use Rattle.ts_mux.specs.Times.{IsTime}

time_fits : (z : ℤ) → IsTime z → SFits w64 z
time_fits (pos n) h = let low : pos n ≤ℤ pos (2 ^ 34) = h.high in record { sfits = omega (arith, ints) }
time_fits (negsuc n) h = let high : negsuc (2 ^ 33 - 1) ≤ℤ negsuc n = h.low in record { sfits = omega (arith, ints) }

pub time_bits : (z : ℤ) → IsTime z → to_z w64 (of_z w64 z) ≡ z
time_bits z h = to_z-of_z w64 z (time_fits z h)

pub head_bits : (id size : ℕ) (pts dts : ℤ) → IsTime pts → IsTime dts
    → head_of id size (to_z w64 (of_z w64 pts)) (to_z w64 (of_z w64 dts)) ≡ head_of id size pts dts
head_bits id size pts dts h k =
    ap (λ (z : ℤ). head_of id size z (to_z w64 (of_z w64 dts))) (time_bits pts h) ∙ ap (λ (z : ℤ). head_of id size pts z) (time_bits dts k)

by_test : (b : Bool) (d bytes : List ℕ) → (if b then bytes else d ++ bytes) ≡ (if b then [] else d) ++ bytes
by_test true d bytes = refl
by_test false d bytes = refl

pub delimited_is : (start rest : List ℕ) → length start ≡ 5
    → delimited (start ++ rest) ≡ (if slice_index start 4 % 32 == 9 then [] else delimiter) ++ (start ++ rest)
unfolding delimited
delimited_is (a ∷ b ∷ c ∷ d ∷ e ∷ []) rest h = by_test (e % 32 == 9) delimiter (a ∷ b ∷ c ∷ d ∷ e ∷ rest)
delimited_is [] rest h = absurd (omega (arith, h))
delimited_is (a ∷ []) rest h = absurd (omega (arith, h))
delimited_is (a ∷ b ∷ []) rest h = absurd (omega (arith, h))
delimited_is (a ∷ b ∷ c ∷ []) rest h = absurd (omega (arith, h))
delimited_is (a ∷ b ∷ c ∷ d ∷ []) rest h = absurd (omega (arith, h))
delimited_is (a ∷ b ∷ c ∷ d ∷ e ∷ f ∷ xs) rest h = absurd (omega (arith, h))

abbrev base_of : ℤ → ℤ → ℕ
base_of pts dts = if int_eq pts dts then 8 else 13

base_bits : (pts dts : ℤ) → IsTime pts → IsTime dts → base_of (to_z w64 (of_z w64 pts)) (to_z w64 (of_z w64 dts)) ≡ base_of pts dts
base_bits pts dts h k =
    ap (λ (z : ℤ). base_of z (to_z w64 (of_z w64 dts))) (time_bits pts h) ∙ ap (λ (z : ℤ). base_of pts z) (time_bits dts k)

-- the head of a frame, of what the code computed
audio_head_is : (p : Packet) (head frame : List ℕ) (size : ℕ) → IsTime p.pts → IsTime p.dts → size ≡ base_of p.pts p.dts + length frame
    → head ≡ head_of 0xC0 size (to_z w64 (of_z w64 p.pts)) (to_z w64 (of_z w64 p.dts))
    → head ≡ head_of 0xC0 (base_of p.pts p.dts + length frame) p.pts p.dts
audio_head_is p head frame size pts dts s h = h ∙ head_bits 0xC0 size p.pts p.dts pts dts ∙ ap (λ k. head_of 0xC0 k p.pts p.dts) s

head_size : (config : AacConfig) (size : ℕ) → length (adts_head config size) ≡ 7
unfolding adts_head
head_size config size = refl

-- the PES packet of a frame
pes_is : (config : AacConfig) (p : Packet) (frame : List ℕ) → frame_of config p.form p.payload ≡ frame
    → head_of 0xC0 (base_of p.pts p.dts + length frame) p.pts p.dts ++ frame ≡ audio_pes config p
unfolding audio_pes
pes_is config p frame e = ap (λ (l : List ℕ). head_of 0xC0 (base_of p.pts p.dts + length l) p.pts p.dts ++ l) (sym e)

-- a payload without a head: the head of a frame comes before it
pub native_front : (config : AacConfig) (p : Packet) (front head part : List ℕ) (size after : ℕ) → p.form ≡ Native → IsTime p.pts → IsTime p.dts
    → after ≡ base_of (to_z w64 (of_z w64 p.pts)) (to_z w64 (of_z w64 p.dts)) → size ≡ length p.payload
    → head ≡ head_of 0xC0 (after + 7 + size) (to_z w64 (of_z w64 p.pts)) (to_z w64 (of_z w64 p.dts))
    → front ≡ head ++ part → part ≡ adts_head config size
    → front ++ p.payload ≡ audio_pes config p
native_front config p front head part size after form pts dts a s h f g =
    let frame : List ℕ = adts_head config (length p.payload) ++ p.payload in
    let long : length frame ≡ 7 + length p.payload =
    length-append (adts_head config (length p.payload)) p.payload ∙ ap (λ k. k + length p.payload) (head_size config (length p.payload)) in
    let base : after ≡ base_of p.pts p.dts = a ∙ base_bits p.pts p.dts pts dts in
    let sizes : after + 7 + size ≡ base_of p.pts p.dts + length frame = omega arith in
    ap (λ l. l ++ p.payload) f ∙ append_assoc head part p.payload
    ∙ ap (λ l. head ++ (l ++ p.payload)) (g ∙ ap (adts_head config) s)
    ∙ ap (λ l. l ++ frame) (audio_head_is p head frame (after + 7 + size) pts dts sizes h)
    ∙ pes_is config p frame (ap (λ (form : Form). frame_of config form p.payload) form)

is_frame : (config : AacConfig) (form : Form) (payload : List ℕ) → (form ≡ Native → ⊥) → frame_of config form payload ≡ payload
is_frame config Native payload h = absurd (h refl)
is_frame config AnnexB payload h = refl
is_frame config Adts payload h = refl

-- a payload that is a frame
pub frame_front : (config : AacConfig) (p : Packet) (head : List ℕ) (size after : ℕ) → (p.form ≡ Native → ⊥) → IsTime p.pts → IsTime p.dts
    → after ≡ base_of (to_z w64 (of_z w64 p.pts)) (to_z w64 (of_z w64 p.dts)) → size ≡ length p.payload
    → head ≡ head_of 0xC0 (after + size) (to_z w64 (of_z w64 p.pts)) (to_z w64 (of_z w64 p.dts))
    → head ++ p.payload ≡ audio_pes config p
frame_front config p head size after form pts dts a s h =
    let base : after ≡ base_of p.pts p.dts = a ∙ base_bits p.pts p.dts pts dts in
    let sizes : after + size ≡ base_of p.pts p.dts + length p.payload = omega arith in
    ap (λ l. l ++ p.payload) (audio_head_is p head p.payload (after + size) pts dts sizes h)
    ∙ pes_is config p p.payload (is_frame config p.form p.payload form)
