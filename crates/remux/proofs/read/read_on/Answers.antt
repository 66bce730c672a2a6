use Rattle.std.proofs.Common.{arith, ◌∙◌, refl, ap, ◌++◌, length, length-append}
use Rattle.rmx_edge.proofs.Run.{rose_later}
use Rattle.remux.proofs.Reading.{under_start, refed, begin_fed, all_still, reaches, under_next, stops, breaks, breaks_taking, breaks_here, drained, both}
use Rattle.remux.proofs.read.read_on.Goals as goal

pub loop-init : goal.loop-init
loop-init g c = record {
  readable = c.requires.readable;
  unended = c.requires.unended;
  faults = omega arith;
  sound = λ h. (refl, h);
  same = (refl, refl);
  some = c.requires.flows;
  all = λ s b start f l. under_start s b _ _ _ _ _ _ _ _ f l;
}

pub pump-requires : goal.pump-requires
pump-requires g c = let w = c.loop.invariant.some in record { flows = (w.0, w.1, w.2, w.3, omega (arith, w.4)) }

pub unreachable-requires : goal.unreachable-requires
unreachable-requires g c =
    let w = c.loop.invariant.some in
    let r = (rw c.in-Ok-End.field-0-is at c.in-Ok-End.ensures.pumps) w.0 w.1 w.2 w.3 in
    both _ c.loop.invariant.unended r.0

pub unreachable-requires-in-Err-Tag : goal.unreachable-requires-in-Err-Tag
unreachable-requires-in-Err-Tag g c =
    let w = c.loop.invariant.some in
    let r = (rw c.in-Err-Tag.field-0-is at c.in-Err-Tag.ensures.pumps) w.0 w.1 w.2 w.3 in
    both _ c.loop.invariant.unended r.0

pub returns-in-Ok-Stop-clause-ends : goal.returns-in-Ok-Stop-clause-ends
returns-in-Ok-Stop-clause-ends g c = λ s b start f l.
    let u = c.loop.invariant.all s b start f l in
    stops s b _ _ _ _ _ _ _ c.loop.line _ _ _ _ _ _ c.requires.readable u c.loop.invariant.readable ((rw c.in-Ok-Stop.field-0-is at c.in-Ok-Stop.ensures.pumps) s _ start u.flowing)

pub returns-in-Err-NoMemory-clause-ends : goal.returns-in-Err-NoMemory-clause-ends
returns-in-Err-NoMemory-clause-ends g c = λ s b start f l.
    let u = c.loop.invariant.all s b start f l in
    breaks s b _ _ _ _ _ _ _ c.loop.line _ _ _ _ _ _ c.requires.readable u ((rw c.in-Err-NoMemory.field-0-is at c.in-Err-NoMemory.ensures.pumps) s _ start u.flowing)

pub drain-requires : goal.drain-requires
drain-requires g c =
    let w = c.loop.invariant.some in
    let r = (rw c.in-Ok-More.field-0-is at c.in-Ok-More.ensures.pumps) w.0 w.1 w.2 w.3 in
    let t = rw c.in-Ok-End-take_piece.field-0-is at c.in-Ok-End-take_piece.ensures.takes in
    record { ended = t.2; flows = (w.0, w.1, w.2, (all_still w.0 w.1 _ _ _ _ _ _ _ _ _ _ r.1 (c.in-Ok-End-take_piece.ensures.known _ _ r.1.flowing.dealt) t.0).flowing, omega (arith, w.4)) }

pub returns-in-Ok-End-take_piece-clause-ends : goal.returns-in-Ok-End-take_piece-clause-ends
returns-in-Ok-End-take_piece-clause-ends g c = λ s b start f l.
    let u = c.loop.invariant.all s b start f l in
    let r = (rw c.in-Ok-More.field-0-is at c.in-Ok-More.ensures.pumps) s (b ++ u.more) start u.flowing in
    let t = rw c.in-Ok-End-take_piece.field-0-is at c.in-Ok-End-take_piece.ensures.takes in
    let a = all_still s (b ++ u.more) _ _ _ _ _ _ _ _ _ _ r.1 (c.in-Ok-End-take_piece.ensures.known _ _ r.1.flowing.dealt) t.0 in
    drained c.drain.result s b _ _ _ _ _ _ _ _ _ _ _ _ c.loop.line c.pump.new.line c.drain.new.line _ _ _ _ _ _ _ _ _ c.requires.readable u a t.0 t.1 t.3 (c.drain.ensures.drains s (b ++ u.more) start a.flowing)

pub returns-in-Ok-Limit-clause-ends : goal.returns-in-Ok-Limit-clause-ends
returns-in-Ok-Limit-clause-ends g c = λ s b start f l.
    let u = c.loop.invariant.all s b start f l in
    let r = (rw c.in-Ok-More.field-0-is at c.in-Ok-More.ensures.pumps) s (b ++ u.more) start u.flowing in
    let t = rw c.in-Ok-Limit.field-0-is at c.in-Ok-Limit.ensures.takes in
    let a = all_still s (b ++ u.more) _ _ _ _ _ _ _ _ _ _ r.1 (c.in-Ok-Limit.ensures.known _ _ r.1.flowing.dealt) t.0 in
    let z = reaches s b _ _ _ _ _ _ _ _ _ _ _ c.loop.line _ _ _ _ _ _ _ c.requires.readable u t.0 a in
    (z.0, ap length z.1 ∙ omega (arith, u.long, t.1))

pub returns-in-Err-Failed-clause-ends : goal.returns-in-Err-Failed-clause-ends
returns-in-Err-Failed-clause-ends g c = λ s b start f l.
    let u = c.loop.invariant.all s b start f l in
    let r = (rw c.in-Ok-More.field-0-is at c.in-Ok-More.ensures.pumps) s (b ++ u.more) start u.flowing in
    let t = rw c.in-Err-Failed.field-0-is at c.in-Err-Failed.ensures.takes in
    let a = all_still s (b ++ u.more) _ _ _ _ _ _ _ _ _ _ r.1 (c.in-Err-Failed.ensures.known _ _ r.1.flowing.dealt) t.0 in
    let z = reaches s b _ _ _ _ _ _ _ _ _ _ _ c.loop.line _ _ _ _ _ _ _ c.requires.readable u t.0 a in
    (z.0, rose_later _ _ _ c.loop.invariant.faults t.1)

pub returns-in-Err-NoMemory-take_piece-clause-ends : goal.returns-in-Err-NoMemory-take_piece-clause-ends
returns-in-Err-NoMemory-take_piece-clause-ends g c = λ s b start f l.
    let u = c.loop.invariant.all s b start f l in
    let r = (rw c.in-Ok-More.field-0-is at c.in-Ok-More.ensures.pumps) s (b ++ u.more) start u.flowing in
    breaks_taking s b _ _ _ _ _ _ _ _ _ _ c.loop.line _ _ _ _ _ _ _ c.requires.readable u r.1 (rw c.in-Err-NoMemory-take_piece.field-0-is at c.in-Err-NoMemory-take_piece.ensures.takes)

pub returns-clause-ends : goal.returns-clause-ends
returns-clause-ends g c = λ s b start f l.
    let u = c.loop.invariant.all s b start f l in breaks_here s b _ _ _ _ _ _ c.loop.line _ _ _ c.requires.readable u

pub loop-preserved : goal.loop-preserved
loop-preserved g c =
    let t = rw c.in-Ok-Bytes.field-0-is at c.in-Ok-Bytes.ensures.takes in
    let w = c.loop.invariant.some in
    let r = (rw c.in-Ok-More.field-0-is at c.in-Ok-More.ensures.pumps) w.0 w.1 w.2 w.3 in
    record {
      readable = t.3;
      unended = t.4;
      faults = omega (arith, c.loop.invariant.faults, c.in-Ok-Bytes.ensures.count);
      sound = λ h.
          let x = c.loop.invariant.sound h in
          let y = c.in-Ok-Bytes.ensures.sound x.1 in (y.0 ∙ x.0, y.1);
      same = (c.pump.ensures.same.0 ∙ c.loop.invariant.same.0, c.pump.ensures.same.1 ∙ c.loop.invariant.same.1);
      some = (w.0, w.1 ++ t.0.bytes, w.2, (refed w.0 w.1 (w.1 ++ t.0.bytes) _ _ _ _ _ _ _ _ r.1.flowing (c.in-Ok-Bytes.ensures.known _ _ r.1.flowing.dealt) (begin_fed w.1 t.0.bytes r.1.flowing.tags r.1.flowing.begin) (t.0.fed w.1 r.1.flowing.tags r.1.flowing.dealt)).0, omega (arith, w.4, t.0.long, t.1, length-append w.1 t.0.bytes));
      all = λ s b start f l.
          let u = c.loop.invariant.all s b start f l in
          let q = (rw c.in-Ok-More.field-0-is at c.in-Ok-More.ensures.pumps) s (b ++ u.more) start u.flowing in
          under_next s b _ _ _ _ _ _ _ _ _ _ _ _ c.loop.line _ _ _ _ _ _ _ u q.1 t.0 (c.in-Ok-Bytes.ensures.known _ _ q.1.flowing.dealt) t.1 t.2;
    }
