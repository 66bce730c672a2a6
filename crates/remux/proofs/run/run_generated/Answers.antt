use Rattle.std.proofs.Common.{[], ap, ◌∙◌, ℕ, false}
use Rattle.options.specs.Words.{plan_view}
use Rattle.tee.specs.Ends.{EndsAll}
use Rattle.remux.specs.Asked.{asked_with, pictures_of}
use Rattle.remux.specs.Generated.{generated, telling}
use Rattle.remux.specs.Kept.{AreKept}
use Rattle.remux.specs.Making.{state_of}
use Rattle.remux.proofs.Running.{made}
use Rattle.remux.proofs.run.run_generated.Goals as goal

pub returns : goal.returns
returns g c = record {
  comes = λ now. made EndsAll AreKept g.S.Shelf.state (generated (pictures_of c.args.count)) (asked_with [] (plan_view c.args.plan.now))
      (state_of c.new-made.result) (state_of c.run_named.new.inputs) now c.args.shelves.items c.run_named.result
      (c.new-made.ensures ∙ ap (λ (n : ℕ). telling (generated n) (generated n) false false) c.min.ensures) c.run_named.ensures.sound c.run_named.ensures.comes;
}
