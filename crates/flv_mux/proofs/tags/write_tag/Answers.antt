use Rattle.std.proofs.Common.{◌≡◌, ℕ, refl, ℤ, ◌+◌, ◌-◌, List, [], ◌∷◌, ◌++◌, length, take, ap, ◌∙◌, subst, rules}
use Rattle.std.specs.Int.{w32, w64, int_wrap}
use Rattle.std.proofs.lemmas.Int.{to_z-of_z}
use borrow.Rule.Slice.PartMut.{put_mid}
use mir.Val.{SFits}
use Rattle.flv_tags.specs.Written.{tag_head_bytes}
use Rattle.rmx_edge.specs.Pieces.{writes}
use Rattle.rmx_edge.specs.Run.{Runs}
use Rattle.flv_mux.proofs.Stamps.{front_is}
use Rattle.flv_mux.proofs.tags.write_tag.Goals as goal

pub returns-clause-run : goal.returns-clause-run
returns-clause-run g c =
    let lead : List ℕ = c.args.lead.now in
    let size : ℕ = length lead + length c.args.content.now in
    let head : List ℕ = tag_head_bytes c.args.kind size (int_wrap w32 c.args.time) in
    let zeros : List ℕ = 0 ∷ 0 ∷ 0 ∷ 0 ∷ 0 ∷ [] in
    let fits : SFits w32 c.stamp_of.result = search rules in
    let stamp = to_z-of_z w32 c.stamp_of.result fits ∙ c.stamp_of.ensures ∙ ap (int_wrap w32) (to_z-of_z w64 c.args.time c.ranges.time) in
    let is_head : c.tag_head-head.result ≡ head = c.tag_head-head.ensures ∙ ap (λ (z : ℤ). tag_head_bytes c.args.kind size z) stamp in
    let put : List ℕ → List ℕ → List ℕ = λ (h l : List ℕ). take (11 + length lead) (put_mid 11 ((11 + length lead) - 11) (h ++ zeros) l) in
    let front =
    ap (λ (h : List ℕ). put h c.copy_from_slice-2.new.self) (c.copy_from_slice.ensures.after ∙ is_head)
    ∙ ap (λ (l : List ℕ). put head l) c.copy_from_slice-2.ensures.after
    ∙ front_is head zeros lead refl in
    let back = c.size_field-back.ensures in
    let pieces =
    ap (λ (l : List ℕ). l ∷ c.args.content.now ∷ c.size_field-back.result ∷ []) front
    ∙ ap (λ (l : List ℕ). (head ++ lead) ∷ c.args.content.now ∷ l ∷ []) back in
    subst (λ (ps : List (List ℕ)). Runs (writes ps) c.write_three.result (g.S.Shelf.state c.args.shelf.now) (g.S.Shelf.state c.write_three.new.shelf)) pieces c.write_three.ensures.run
