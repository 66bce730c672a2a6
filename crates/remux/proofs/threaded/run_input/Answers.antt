use Rattle.std.proofs.Common.{◌∙◌}
use Rattle.remux.proofs.Inlining.{nothing_within}
use Rattle.remux.proofs.Running.{nothing_early}
use Rattle.remux.proofs.threaded.run_input.Goals as goal

pub write_started-requires-clause-found : goal.write_started-requires-clause-found
write_started-requires-clause-found g c = λ lifetimes within. let f = c.in-Ok.ensures.found in (f.0, f.3)

pub returns-in-Ok-clause-comes : goal.returns-in-Ok-clause-comes
returns-in-Ok-clause-comes g c = let f = c.in-Ok.ensures.found in c.write_started.ensures.comes c.args.name.now _ f.0 f.1 f.2 f.3

pub returns-in-Ok-clause-sound : goal.returns-in-Ok-clause-sound
returns-in-Ok-clause-sound g c = λ h. let s = c.in-Ok.ensures.sound h in (c.write_started.ensures.sound s.1).0 ∙ s.0

pub returns-in-Err-clause-comes : goal.returns-in-Err-clause-comes
returns-in-Err-clause-comes g c = nothing_early _ _ _ _ _ _ _ c.nothing.ensures c.in-Err.ensures.early

pub returns-in-Err-clause-inline : goal.returns-in-Err-clause-inline
returns-in-Err-clause-inline g c = nothing_within _ _ _ _ _ c.nothing.ensures
