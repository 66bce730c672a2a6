use Rattle.std.proofs.Common.{List, ℕ, ap, ◌∙◌}
use Rattle.rmx_media.proofs.AvcLemmas.{length_size}
use Rattle.std.proofs.Common.{Bool}
use Rattle.std.specs.Prelude.{not}
use Rattle.rmx_media.specs.Avc.{sets_of}
use Rattle.rmx_media.specs.Units.{units_of}
use Rattle.avc_units.specs.Filled.{left_of as sets_left}
use Rattle.avc_units.specs.Units.{left_of as units_left}
use Rattle.avc_units.proofs.ListLemmas.{due_begin}
use Rattle.avc_units.specs.UnitList.{with_sets, where_due, has_type}
use Rattle.avc_units.proofs.placed.Placed.of.Goals as goal

pub units-requires-clause-low : goal.units-requires-clause-low
units-requires-clause-low c = (length_size c.args.config.now c.requires.config.read).0

pub units-requires-clause-high : goal.units-requires-clause-high
units-requires-clause-high c = (length_size c.args.config.now c.requires.config.read).1

pub units-requires-2-clause-low : goal.units-requires-2-clause-low
units-requires-2-clause-low c = (length_size c.args.config.now c.requires.config.read).0

pub units-requires-2-clause-high : goal.units-requires-2-clause-high
units-requires-2-clause-high c = (length_size c.args.config.now c.requires.config.read).1

pub returns : goal.returns
unfolding with_sets
returns c =
    due_begin c.has_parameters.result (sets_left c.of.result) (units_left c.units.result)
    ∙ ap (λ (b : Bool). where_due (not b) (sets_left c.of.result) (units_left c.units.result)) (c.has_parameters.ensures ∙ ap (has_type 7) c.units-2.ensures.units)
    ∙ ap (λ (s : List (List ℕ)). where_due (not (has_type 7 (units_of c.args.config.now.length_size c.args.payload.now))) s (units_left c.units.result)) c.of.ensures
    ∙ ap (λ (u : List (List ℕ)). where_due (not (has_type 7 (units_of c.args.config.now.length_size c.args.payload.now))) (sets_of c.args.config.now) u) c.units.ensures.units
