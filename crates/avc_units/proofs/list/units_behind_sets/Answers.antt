use Rattle.std.proofs.Common.{ℕ, ◌++◌, Bool, List, sym, ap, ◌∙◌}
use Rattle.std.specs.Prelude.{if◌then◌else◌}
use Rattle.rmx_media.specs.Avc.{sets_of}
use Rattle.avc_units.specs.UnitList.{shown, in_front}
use Rattle.avc_units.proofs.list.units_behind_sets.Goals as goal

pub returns-then-begins_with : goal.returns-then-begins_with
unfolding in_front
returns-then-begins_with c =
    c.in_ok-push_units.ensures
    ∙ ap (λ (us : List (List ℕ)). us ++ shown c.args.units.now) (ap shown c.new-list.ensures.items)
    ∙ ap (λ (b : Bool). if b then shown c.args.units.now else sets_of c.args.config.now ++ shown c.args.units.now)
    (sym c.if-begins_with.true ∙ c.begins_with.ensures)

pub returns : goal.returns
unfolding in_front
returns c =
    c.in_ok-push_units-2.ensures
    ∙ ap (λ (us : List (List ℕ)). us ++ shown c.args.units.now) (c.in_ok-push_sets.ensures ∙ ap (λ (us : List (List ℕ)). us ++ sets_of c.args.config.now) (ap shown c.new-list.ensures.items))
    ∙ ap (λ (b : Bool). if b then shown c.args.units.now else sets_of c.args.config.now ++ shown c.args.units.now)
    (sym c.if-begins_with.false ∙ c.begins_with.ensures)
