use Rattle.std.proofs.Common.{[], arith, rules, length, ap, sym, ◌∙◌, subst, map, Result, Ok, List, ℕ}
use Rattle.std.specs.Str.{chars}
use Rattle.options.specs.declared.fault.WordKind.{WordKind}
use Rattle.options.specs.Read.{Fails}
use Rattle.options.specs.Slave.{Slave, view}
use Rattle.options.specs.Tee.{slaves_behind, slaves}
use Rattle.options.proofs.Binds.{bind_is, bind_fails}
use Rattle.options.proofs.Tees.{last_slave, more_slaves, bad_slave, next_shorter}
use Rattle.options.proofs.tee.slaves_of.Goals as goal

pub returns-in-Err : goal.returns-in-Err
unfolding slaves
returns-in-Err c =
    bind_fails c.in-Err.error (slaves_behind [] (chars c.args.text.now)) (λ x. Ok x.0)
    (subst (λ (r : Result (List Slave × List ℕ) WordKind). Fails c.in-Err.error r) c.slaves.invariant.1
    (bad_slave c.slaves.plans.items c.deref.result.now (chars c.slaves.rest.now) c.in-Err.error c.deref.ensures.value c.in-Err.ensures))

pub returns-in_default : goal.returns-in_default
unfolding slaves
returns-in_default c =
    bind_is (slaves_behind [] (chars c.args.text.now)) (map view c.push.new.self.items, []) (λ x. Ok x.0)
    (sym c.slaves.invariant.1 ∙ last_slave c.slaves.plans.items c.deref.result.now c.push.new.self.items c.in-Ok.next.0 (chars c.slaves.rest.now) (chars c.in-Ok.next.1.now) c.deref.ensures.value c.in-Ok.ensures c.in_ok-push.ensures.items c.in_default.ensures)

pub slaves-smaller : goal.slaves-smaller
slaves-smaller c = omega (arith, next_shorter _ (chars c.slaves.rest.now) _ c.in-Ok.ensures, ap length c.in-Some.ensures)

pub slaves-preserved : goal.slaves-preserved
slaves-preserved c =
    (search rules, more_slaves c.slaves.plans.items c.deref.result.now c.push.new.self.items c.in-Ok.next.0 (chars c.slaves.rest.now) (chars c.in-Ok.next.1.now) (chars c.in-Some.after.now) _ c.deref.ensures.value c.in-Ok.ensures c.in_ok-push.ensures.items c.in-Some.ensures ∙ c.slaves.invariant.1)
