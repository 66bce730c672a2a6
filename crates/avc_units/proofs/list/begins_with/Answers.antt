use Rattle.std.proofs.Common.{sym, ◌∙◌, arith}
use Rattle.avc_units.specs.Filled.{left_of}
use Rattle.avc_units.proofs.ListLemmas.{begins_short, begins_other, begins_more}
use Rattle.avc_units.proofs.list.begins_with.Goals as goal

pub returns-then-place-units : goal.returns-then-place-units
returns-then-place-units c =
    sym (c.loop-set.invariant.same
    ∙ begins_short (left_of c.loop-set.sets) (left_of c.take_set.new.self) c.in-Some.set.now c.args.units.now c.loop-set.place c.in-Some.ensures.1 c.if-place-units.true)

pub returns-then-ne : goal.returns-then-ne
returns-then-ne c =
    sym (c.loop-set.invariant.same
    ∙ begins_other c.ne.result (left_of c.loop-set.sets) (left_of c.take_set.new.self) c.in-Some.set.now c.args.units.now c.loop-set.place c.in-Some.ensures.1
    c.if-place-units.false c.ne.ensures c.if-ne.true)

pub loop-set-preserved : goal.loop-set-preserved
loop-set-preserved c = record {
  within = omega arith;
  same =
      c.loop-set.invariant.same
      ∙ begins_more c.ne.result (left_of c.loop-set.sets) (left_of c.take_set.new.self) c.in-Some.set.now c.args.units.now c.loop-set.place c.in-Some.ensures.1
      c.if-place-units.false c.ne.ensures c.if-ne.false;
}
