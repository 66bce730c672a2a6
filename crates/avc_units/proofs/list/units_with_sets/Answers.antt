use Rattle.std.proofs.Common.{ℕ, ◌++◌, Bool, List, ap, ◌∙◌}
use Rattle.std.specs.Prelude.{not}
use Rattle.rmx_media.specs.Avc.{sets_of}
use Rattle.avc_units.specs.UnitList.{shown, where_due, with_sets}
use Rattle.avc_units.proofs.list.units_with_sets.Goals as goal

pub loop-unit-init : goal.loop-unit-init
unfolding with_sets
loop-unit-init c =
    ap (λ (us : List (List ℕ)). us ++ where_due (not c.has_unit_of-due.result) (sets_of c.args.config.now) (shown c.args.units.now)) (ap shown c.new-list.ensures.items)
    ∙ ap (λ (b : Bool). where_due (not b) (sets_of c.args.config.now) (shown c.args.units.now)) c.has_unit_of-due.ensures
