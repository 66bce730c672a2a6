use Rattle.std.proofs.Common.{◌∙◌}
use Rattle.remux.proofs.Running.{nothing_early}
use Rattle.remux.proofs.run.run_named.Goals as goal

pub write_found-requires-clause-found : goal.write_found-requires-clause-found
write_found-requires-clause-found g c = let f = c.in-Ok.ensures.found in (f.0, f.3)

pub returns-in-Ok-clause-comes : goal.returns-in-Ok-clause-comes
returns-in-Ok-clause-comes g c = let f = c.in-Ok.ensures.found in c.write_found.ensures.comes c.args.name.now _ f.0 f.1 f.2 f.3

pub returns-in-Ok-clause-sound : goal.returns-in-Ok-clause-sound
returns-in-Ok-clause-sound g c = λ h. let s = c.in-Ok.ensures.sound h in (c.write_found.ensures.sound s.1).0 ∙ s.0

pub returns-in-Err-clause-comes : goal.returns-in-Err-clause-comes
returns-in-Err-clause-comes g c = nothing_early _ _ _ _ _ _ _ c.nothing.ensures c.in-Err.ensures.early
