-- Units behind start codes have five bytes at least.
use Rattle.std.proofs.Common.{◌≡◌, ℕ, ◌+◌, ◌≤◌, ◌<◌, ◌==◌, Bool, true, false, not, if◌then◌else◌, List, [], ◌∷◌, ◌++◌, length, filter, refl, ap, ◌∙◌, arith, unwrap_or, length-append}
use Rattle.std.specs.List.{flat_map}
use Rattle.std.proofs.lemmas.Grind.{flat_map-append}
use Rattle.std.proofs.lemmas.Bool.Decides.{Decides-ltb}
use Rattle.rmx_media.specs.declared.avc.AvcConfig.{AvcConfig}
use Rattle.rmx_media.specs.declared.config.Config.TheVariants.{Avc}
use Rattle.rmx_media.specs.declared.packet.Form.{Form}
use Rattle.rmx_media.specs.declared.packet.Form.TheVariants.{Native, AnnexB, Adts}
use Rattle.rmx_media.specs.Avc.{sets_of}
use Rattle.rmx_media.specs.Fits.{IsPayload}
use Rattle.rmx_media.specs.Units.{annexb, started, AreFilled, is_filled, is_valid, units_of, parts_of, type_of}
use Rattle.avc_units.specs.UnitList.{with_sets, before_idr, where_due, has_type}
use Rattle.ts_mux.specs.Pes.{started_form}

five : (units : List (List ℕ)) → 0 < length units → AreFilled units → 5 ≤ length (annexb units)
unfolding annexb
five [] h f = absurd (omega (arith, h))
five ([] ∷ units) h f = absurd (omega (arith, f.0))
five ((x ∷ unit) ∷ units) h f = omega arith

kept : (filled : Bool) (unit : List ℕ) (rest : List (List ℕ)) → (filled ≡ true → 0 < length unit) → AreFilled rest → AreFilled (if filled then unit ∷ rest else rest)
kept true unit rest h f = (h refl, f)
kept false unit rest h f = f

filled : (units : List (List ℕ)) → AreFilled (filter is_filled units)
filled [] = tt
filled (unit ∷ units) = kept (is_filled unit) unit (filter is_filled units) (λ e. (Decides-ltb 0 (length unit)).0 e) (filled units)

idr_here : (sets units : List (List ℕ)) → length (annexb units) ≤ length (annexb (sets ++ units))
unfolding annexb
idr_here sets units =
    let e : length (flat_map started (sets ++ units)) ≡ length (flat_map started sets) + length (flat_map started units) =
    ap length (flat_map-append started sets units) ∙ length-append (flat_map started sets) (flat_map started units) in
    omega arith

idr_later : (unit : List ℕ) (units more : List (List ℕ)) → length (annexb units) ≤ length (annexb more) → length (annexb (unit ∷ units)) ≤ length (annexb (unit ∷ more))
unfolding annexb
idr_later unit units more h = omega (arith, length-append (started unit) (flat_map started units), length-append (started unit) (flat_map started more))

idr_by : (here : Bool) (sets : List (List ℕ)) (unit : List ℕ) (units more : List (List ℕ)) → length (annexb units) ≤ length (annexb more)
    → length (annexb (unit ∷ units)) ≤ length (annexb (if here then sets ++ unit ∷ units else unit ∷ more))
idr_by true sets unit units more h = idr_here sets (unit ∷ units)
idr_by false sets unit units more h = idr_later unit units more h

-- no unit is lost where sets are put in
idr_longer : (sets units : List (List ℕ)) → length (annexb units) ≤ length (annexb (before_idr sets units))
idr_longer sets [] = omega arith
idr_longer sets (unit ∷ units) = idr_by (type_of unit == 5) sets unit units (before_idr sets units) (idr_longer sets units)

due_longer : (due : Bool) (sets units : List (List ℕ)) → length (annexb units) ≤ length (annexb (where_due due sets units))
due_longer true sets units = idr_longer sets units
due_longer false sets units = omega arith

sets_longer : (sets units : List (List ℕ)) → length (annexb units) ≤ length (annexb (with_sets sets units))
unfolding with_sets
sets_longer sets units = due_longer (not (has_type 7 units)) sets units

are_filled : (width : ℕ) (payload : List ℕ) → AreFilled (units_of width payload)
unfolding units_of
are_filled width payload = filled (unwrap_or (parts_of width payload) [])

pub native_five : (config : AvcConfig) (payload : List ℕ) → is_valid config.length_size payload ≡ true
    → 5 ≤ length (annexb (with_sets (sets_of config) (units_of config.length_size payload)))
native_five config payload h =
    let units : List (List ℕ) = units_of config.length_size payload in
    let some : 0 < length units = (Decides-ltb 0 (length units)).0 h in
    omega (arith, five units some (are_filled config.length_size payload), sets_longer (sets_of config) units)

pub other_five : (config : AvcConfig) (form : Form) (payload : List ℕ) → (form ≡ Native → ⊥) → IsPayload (Avc config) form payload → 5 ≤ length payload
other_five config Native payload n h = absurd (n refl)
other_five config AnnexB payload n h = omega (arith, five h.units h.some h.filled, ap length h.spelled)
other_five config Adts payload n h = absurd h

pub other_form : (config : AvcConfig) (form : Form) (payload : List ℕ) → (form ≡ Native → ⊥) → started_form config form payload ≡ payload
other_form config Native payload n = absurd (n refl)
other_form config AnnexB payload n = refl
other_form config Adts payload n = refl
