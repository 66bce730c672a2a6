-- What a worker gives back.
use Rattle.std.specs.Prelude.{◌≡◌, ℕ, ◌+◌, Bool, true, false, nat_lt, List, [], ◌∷◌, ◌++◌}
use Rattle.fifo_core.specs.declared.types.FifoOptions.{FifoOptions}
use Rattle.fifo_core.specs.History.{mode_of, mode_is_dead}
use Rattle.rmx_edge.specs.Shelf.{ShelfState}
use Rattle.lane_core.specs.Machine as machine
use Rattle.lane_core.specs.Machine.{Event, Reply}
use Rattle.lane.specs.declared.msg.Msg.{Msg}
use Rattle.lane.specs.Past.{Past}
use Rattle.lane.specs.Told.{TakerNow}
use Rattle.lane.specs.Ring.{one_if}
use Rattle.slave.specs.Origin.{Origin}
use Rattle.slave.specs.Given.{Given}
use Rattle.slave.specs.Fresh.{IsFresh}
use Rattle.slave.specs.Job.{JobView}
use Rattle.slave.specs.Purpose.{IsFor}
use Rattle.slave.specs.End.{EndView, EndedAll, end_view}
use Rattle.slave.specs.Stretches.{Stretches}
use Rattle.slave.specs.declared.run.WorkEnd.{WorkEnd}

abbrev pub is_fail : Event Msg → Bool
is_fail (machine.offer x) = false
is_fail machine.take = false
is_fail machine.see = false
is_fail machine.close = false
is_fail machine.fail = true

-- how often `fail` was called
abbrev pub fails : Past Msg → ℕ
fails [] = 0
fails (p ∷ h) = one_if (is_fail p.0) + fails h

abbrev pub add_late : Event Msg → Reply Msg → Bool → List Msg → List Msg
add_late machine.take (machine.got x) true xs = xs ++ x ∷ []
add_late _ _ _ xs = xs

-- the messages that were got behind the first `fail`, oldest first
abbrev pub got_late : Past Msg → List Msg
got_late [] = []
got_late (p ∷ h) = add_late p.0 p.1 (nat_lt 0 (fails h)) (got_late h)

-- an output of this origin and these options was given all messages, in order
pub record WorkedFor (g : Origin) (o : FifoOptions) (e : EndView) (t : TakerNow) : Type 0 where
  pub given : List Given
  pub ends : EndedAll g o given e
  pub stretches : Stretches g o given ends.history t.got t.numbers
  -- the giver was told of the failure exactly where the output was given up, and then once
  pub failed : t.failed ≡ mode_is_dead (mode_of o ends.history)
  pub once : fails t.past ≡ one_if (mode_is_dead (mode_of o ends.history))
  -- it was told at once: the messages got after that are all those that came for an output that had been given up
  pub at_once : got_late t.past ≡ stretches.after

-- a worker had this job and this taker
pub record Worked {S : Type 0} (state : S → ShelfState) (job : JobView) (taker : TakerNow) (r : WorkEnd S) : Type 0 where
  pub worked : (g : Origin) (o : FifoOptions) → IsFresh g o job → IsFor g taker.about → WorkedFor g o (end_view state r.end) r.taker
  pub ring : r.taker.ring ≡ taker.ring
  pub about : r.taker.about ≡ taker.about
  -- the last take answered that nothing more comes
  pub ended : r.taker.ended ≡ true
  pub last : (h : Past Msg) × (r.taker.past ≡ (machine.take, machine.ended) ∷ h)
