use Rattle.std.proofs.Common.{◌≡◌, length, ap, arith, lit<}
use Rattle.avc_units.specs.Pieces.{left_of}
use Rattle.avc_units.specs.Placed.{left_of as placed_left}
use Rattle.avc_units.proofs.PiecesLemmas.{start_given, none_left}
use Rattle.avc_units.proofs.pieces.PiecesIterator.next.Goals as goal

pub returns-in-Some-clause-steps : goal.returns-in-Some-clause-steps
returns-in-Some-clause-steps c = (
  start_given c.args.self.now.unit.now c.in-Some.unit.now (placed_left c.args.self.now.placed) (placed_left c.take_unit.new.self)
      c.if-self-gt0.false c.in-Some.ensures.0 c.in-Some.ensures.1,
  lit< tt,
)

pub returns-in-Some-clause-goes : goal.returns-in-Some-clause-goes
returns-in-Some-clause-goes c =
    let fewer : length (left_of c.args.self.now) ≡ _ = ap length (returns-in-Some-clause-steps c).0 in
    record { on = λ h. (tt, h, omega arith); keeps = tt; rests = λ _. tt }

pub returns-in-None-clause-steps : goal.returns-in-None-clause-steps
returns-in-None-clause-steps c = (
  none_left c.args.self.now.unit.now (placed_left c.args.self.now.placed) c.if-self-gt0.false c.in-None.ensures.0,
  none_left c.args.self.now.unit.now (placed_left c.take_unit.new.self) c.if-self-gt0.false c.in-None.ensures.1,
)
