use Rattle.std.proofs.Common.{◌∙◌, [], ◌∷◌}
use Rattle.rmx_edge.specs.Shelf.{Write}
use Rattle.rmx_edge.proofs.Run.{runs_then, runs_stopped}
use Rattle.playlist.proofs.list.write_heads.Goals as goal

pub returns-in-Ok-clause-run : goal.returns-in-Ok-clause-run
returns-in-Ok-clause-run g c =
    let first = c.as_str.ensures.value ∙ c.number_line-first.ensures in
    let target = c.as_str-in-Ok.ensures.value ∙ c.number_line-target.ensures in
    runs_then c.in-Ok.ensures.run (rw (first, target) at c.write_two-in-Ok.ensures.run)

pub returns-in-Err-clause-run : goal.returns-in-Err-clause-run
returns-in-Err-clause-run g c = runs_stopped (Write _ ∷ Write _ ∷ []) c.in-Err.ensures.run
