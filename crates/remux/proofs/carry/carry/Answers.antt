use Rattle.std.proofs.Common.{[]}
use Rattle.remux.proofs.Carrying.{first_order, ready_at, flows_some, flows_none, first_stops, first_breaks, first_ready}
use Rattle.remux.proofs.carry.carry.Goals as goal

pub hand_over-requires-clause-order : goal.hand_over-requires-clause-order
hand_over-requires-clause-order g c =
    let w = c.requires.ready in
    first_order w.0 w.1 c.in-Some.p _ _ _ _ _ _ c.args.line.now _ _ (ready_at w.0 w.1 _ _ _ _ _ _ _ _ c.args.line.now _ _ c.in-Some.is w.3)

pub hand_over-requires-clause-ready : goal.hand_over-requires-clause-ready
hand_over-requires-clause-ready g c =
    let w = c.requires.ready in
    let y = ready_at w.0 w.1 _ _ _ _ _ _ _ _ c.args.line.now _ _ c.in-Some.is w.3 in
    (w.2, [], y.kept, first_ready w.0 w.1 c.in-Some.p _ _ _ _ _ _ c.args.line.now _ _ y w.4)

pub carry_on-requires-clause-flows : goal.carry_on-requires-clause-flows
carry_on-requires-clause-flows g c =
    let w = c.requires.ready in
    let y = ready_at w.0 w.1 _ _ _ _ _ _ _ _ c.args.line.now _ _ c.in-Some.is w.3 in (
      w.0,
      w.1,
      w.2,
      flows_some w.0 w.1 c.in-Some.p _ _ _ _ _ _ c.args.line.now c.hand_over.new.line _ _ _ _ _ _ y c.hand_over.ensures.same.0 ((rw c.in-Ok-More.field-0-is at c.in-Ok-More.ensures.handed) [] [] w.2 y.flow y.kept) c.hand_over.ensures.pending c.hand_over.ensures.takes,
      y.how,
      y.late,
      w.4,
    )

pub carry_on-requires-in-None-clause-flows : goal.carry_on-requires-in-None-clause-flows
carry_on-requires-in-None-clause-flows g c =
    let w = c.requires.ready in
    let y = ready_at w.0 w.1 _ _ _ _ _ _ _ _ c.args.line.now _ _ c.in-None.is w.3 in
    (w.0, w.1, w.2, flows_none w.0 w.1 _ _ _ _ _ _ c.args.line.now _ _ _ y, y.how, y.late, w.4)

pub returns-in-Ok-More-clause-carries : goal.returns-in-Ok-More-clause-carries
returns-in-Ok-More-clause-carries g c = λ s b start r.
    let y = ready_at s b _ _ _ _ _ _ _ _ c.args.line.now _ _ c.in-Some.is r in
    c.carry_on.ensures.carries s b start
    (flows_some s b c.in-Some.p _ _ _ _ _ _ c.args.line.now c.hand_over.new.line _ _ _ _ _ _ y c.hand_over.ensures.same.0 ((rw c.in-Ok-More.field-0-is at c.in-Ok-More.ensures.handed) [] [] start y.flow y.kept) c.hand_over.ensures.pending c.hand_over.ensures.takes) y.late y.how

pub returns-in-Ok-Stop-clause-carries : goal.returns-in-Ok-Stop-clause-carries
returns-in-Ok-Stop-clause-carries g c = λ s b start r.
    let y = ready_at s b _ _ _ _ _ _ _ _ c.args.line.now _ _ c.in-Some.is r in
    first_stops s b c.in-Some.p _ _ _ _ _ _ c.args.line.now c.hand_over.new.line _ _ _ _ _ y c.hand_over.ensures.same.0 c.hand_over.ensures.same.1 ((rw c.in-Ok-Stop.field-0-is at c.in-Ok-Stop.ensures.handed) [] [] start y.flow y.kept)

pub returns-in-Err-clause-carries : goal.returns-in-Err-clause-carries
returns-in-Err-clause-carries g c = λ s b start r.
    let y = ready_at s b _ _ _ _ _ _ _ _ c.args.line.now _ _ c.in-Some.is r in
    first_breaks s b c.in-Some.p _ _ _ _ _ _ c.args.line.now c.hand_over.new.line _ _ _ _ _ y c.hand_over.ensures.same.0 c.hand_over.ensures.same.1 (c.in-Err.ensures.some [] [] start y.flow y.kept)

pub returns-in-None-clause-carries : goal.returns-in-None-clause-carries
returns-in-None-clause-carries g c = λ s b start r.
    let y = ready_at s b _ _ _ _ _ _ _ _ c.args.line.now _ _ c.in-None.is r in
    c.carry_on-in-None.ensures.carries s b start (flows_none s b _ _ _ _ _ _ c.args.line.now _ _ _ y) y.late y.how
