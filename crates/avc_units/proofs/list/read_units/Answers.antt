use Rattle.std.proofs.Common.{◌++◌, List, ℕ, ap, ◌∙◌, sym}
use Rattle.rmx_media.proofs.AvcLemmas.{length_size}
use Rattle.avc_units.specs.UnitList.{shown}
use Rattle.avc_units.proofs.ListLemmas.{end}
use Rattle.avc_units.proofs.list.read_units.Goals as goal

pub units-left-requires-clause-low : goal.units-left-requires-clause-low
units-left-requires-clause-low c = (length_size c.args.config.now c.requires.config.read).0

pub units-left-requires-clause-high : goal.units-left-requires-clause-high
units-left-requires-clause-high c = (length_size c.args.config.now c.requires.config.read).1

pub returns : goal.returns
returns c =
    sym (end (shown c.loop-unit.list.items))
    ∙ ap (λ (us : List (List ℕ)). shown c.loop-unit.list.items ++ us) (sym c.in_default.ensures.steps.0)
    ∙ c.loop-unit.invariant
