-- A state that is kept, and the machine that it shows.
use Rattle.std.specs.Prelude.{◌≡◌, List, length, map}
use Rattle.lane_core.specs.declared.event.LaneEvent.{LaneEvent}
use Rattle.lane_core.specs.declared.event.LaneEvent.TheVariants.{Offer, Take, See, Close, Fail}
use Rattle.lane_core.specs.declared.event.LaneReply.{LaneReply}
use Rattle.lane_core.specs.declared.event.LaneReply.TheVariants.{Accepted, Refused, Got, Empty, Ended, Overs, Done, Shut}
use Rattle.lane_core.specs.declared.event.Held.{Held}
use Rattle.lane_core.specs.declared.state.LaneState.{LaneState}
use Rattle.lane_core.specs.Size.{size_of}
use Rattle.lane_core.specs.Machine.{Event, Reply, Bounds, Machine, waiting, next, history}
use Rattle.lane_core.specs.Machine as machine

abbrev pub event_of : LaneEvent → Event Held
event_of (Offer index size) = machine.offer record { index = index; size = size }
event_of Take = machine.take
event_of See = machine.see
event_of Close = machine.close
event_of Fail = machine.fail

-- a reply names a message by its index
abbrev pub reply_of : Reply Held → LaneReply
reply_of machine.accepted = Accepted
reply_of (machine.refused v) = Refused v
reply_of (machine.got h) = Got h.index
reply_of machine.empty = Empty
reply_of machine.ended = Ended
reply_of (machine.overs v) = Overs v
reply_of machine.done = Done
reply_of machine.shut = Shut

abbrev pub bounds_of : LaneState → Bounds
bounds_of s = record { cap = s.cap; limit = s.limit }

-- the machine keeps all that was given, and the state only what waits of it
pub record Shows (s : LaneState) (m : Machine Held) : Type 0 where
  pub queue : s.queue.items ≡ waiting m.given m.taken
  pub given : s.given ≡ length m.given
  pub got : s.got ≡ m.taken
  pub over : s.over ≡ m.over
  pub closed : s.closed ≡ m.closed
  pub failed : s.failed ≡ m.failed

-- the reply is the machine's, and the new state shows where the machine goes
abbrev pub DoesAs : Bounds → Machine Held → Event Held → LaneReply → LaneState → Type 0
DoesAs b m e reply new = (reply ≡ reply_of (next size_of b m e).1) × Shows new (next size_of b m e).0

-- the replies to a list of events
abbrev pub replies_of : Bounds → Machine Held → List LaneEvent → List LaneReply
replies_of b m events = map (λ (p : Event Held × Reply Held). reply_of p.1) (history size_of b m (map event_of events))
