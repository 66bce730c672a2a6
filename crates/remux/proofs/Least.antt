-- The least number of tags that emit so many packets.
use Rattle.std.proofs.Common.{◌≡◌, ℕ, ◌+◌, ◌≤◌, List, [], ◌∷◌, ◌++◌, length, take, drop, ap, ◌∙◌, sym, refl, subst, arith, length-append, append_assoc, Bool}
use Rattle.std.proofs.lemmas.List.{take-append-le, take-append-drop}
use Rattle.rmx_media.specs.declared.packet.Packet.{Packet}
use Rattle.flv_tags.specs.declared.tag.Tag.{Tag}
use Rattle.flv_tags.specs.Tags.{reading_of}
use Rattle.flv_demux.specs.declared.deal.Kinds.{Kinds}
use Rattle.flv_demux.specs.Deal.{packets_by, packets_from, desk_of}
use Rattle.flv_demux.proofs.Longer.{packets_by-append}
use Rattle.interleaver.specs.Interleave.{emitted}
use Rattle.interleaver.proofs.Steps.{emitted_adds}
use Rattle.remux.specs.Flow.{Stopped}
use Rattle.remux.specs.Reading.{IsLeast}

-- fewer tags emit no more
emits_less : (s : Kinds) (n delta : ℕ) (a b : List Tag) → length (emitted n delta (packets_by s a)) ≤ length (emitted n delta (packets_by s (a ++ b)))
emits_less s n delta a b =
    let k = emitted_adds n delta (packets_by s a) (packets_from s (desk_of s a) b) in
    let e : emitted n delta (packets_by s (a ++ b)) ≡ emitted n delta (packets_by s a) ++ k.0 = ap (emitted n delta) (packets_by-append s a b) ∙ k.1 in
    omega (arith, ap length e, length-append (emitted n delta (packets_by s a)) k.0)

take_all : (a : List Tag) (b : List Tag) → take (length a) (a ++ b) ≡ a
take_all [] b = refl
take_all (x ∷ a) b = ap (λ (l : List Tag). x ∷ l) (take_all a b)

parts : (k : ℕ) (a : List Tag) → take k a ++ drop k a ≡ a
parts k a = take-append-drop k a

pub least_tags : (s : Kinds) (b : List ℕ) (done n delta : ℕ) (h : List ℕ → List Tag → Type 0) (k : List Packet → Type 0) (d : ℕ → Bool) → (st : Stopped s b done n delta h k d) → IsLeast s n delta (reading_of b).tags (length st.before + 1) (length st.given)
least_tags s b done n delta h k d st = record {
  enough =
      let len : length (st.before ++ st.tag ∷ []) ≡ length st.before + 1 = length-append st.before (st.tag ∷ []) in
      let t : take (length st.before + 1) (reading_of b).tags ≡ st.before ++ st.tag ∷ [] =
      ap (take (length st.before + 1)) st.begin.1 ∙ ap (λ (m : ℕ). take m ((st.before ++ st.tag ∷ []) ++ st.begin.0)) (sym len) ∙ take_all (st.before ++ st.tag ∷ []) st.begin.0 in
      rw t (omega (arith, ap length st.enough, length-append st.given st.rest));
  least = λ fewer lt.
      let whole : (reading_of b).tags ≡ st.before ++ (st.tag ∷ [] ++ st.begin.0) = st.begin.1 ∙ append_assoc st.before (st.tag ∷ []) st.begin.0 in
      let t : take fewer (reading_of b).tags ≡ take fewer st.before = ap (take fewer) whole ∙ take-append-le fewer st.before (st.tag ∷ [] ++ st.begin.0) (omega arith) in
      let m : length (emitted n delta (packets_by s (take fewer st.before))) ≤ length (emitted n delta (packets_by s st.before)) =
      subst (λ (l : List Tag). length (emitted n delta (packets_by s (take fewer st.before))) ≤ length (emitted n delta (packets_by s l))) (parts fewer st.before) (emits_less s n delta (take fewer st.before) (drop fewer st.before)) in
      rw t (omega (arith, st.less));
}
