use Rattle.std.proofs.Common.{sym, ap, ◌∙◌, arith}
use Rattle.avc_units.proofs.UnitsLemmas.{good, good_begin, good_filled, good_empty, good_end, parts_cut}
use Rattle.avc_units.proofs.native.valid_units.Goals as goal

pub loop-rest-init : goal.loop-rest-init
loop-rest-init c = good_begin c.args.length_size c.args.payload.now

pub returns-in_default : goal.returns-in_default
returns-in_default c =
    sym (c.loop-rest.invariant
    ∙ ap (good c.loop-rest.found) (parts_cut c.args.length_size c.loop-rest.rest.now c.requires.low (omega arith) c.in_default.ensures.cut))

pub loop-rest-preserved : goal.loop-rest-preserved
loop-rest-preserved c =
    c.loop-rest.invariant
    ∙ good_empty c.loop-rest.found c.args.length_size c.loop-rest.rest.now c.in-Some.unit.now c.in-Some.after.now c.requires.low (omega arith)
    c.in-Some.ensures.whole c.in-Some.ensures.unit c.in-Some.ensures.rest (omega arith)

pub loop-rest-preserved-then-unit-gt0 : goal.loop-rest-preserved-then-unit-gt0
loop-rest-preserved-then-unit-gt0 c =
    c.loop-rest.invariant
    ∙ good_filled c.loop-rest.found c.args.length_size c.loop-rest.rest.now c.in-Some.unit.now c.in-Some.after.now c.requires.low (omega arith)
    c.in-Some.ensures.whole c.in-Some.ensures.unit c.in-Some.ensures.rest (omega arith)

pub returns : goal.returns
returns c = sym (c.loop-rest.invariant ∙ good_end c.loop-rest.found c.args.length_size c.loop-rest.rest.now (omega arith))
