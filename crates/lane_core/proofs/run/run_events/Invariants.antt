use Rattle.std.proofs.Common.{◌≡◌, ◌≤◌, map}
use Rattle.std.specs.Prelude.{take as front}
use Rattle.lane_core.specs.Size.{size_of}
use Rattle.lane_core.specs.Machine.{start, final}
use Rattle.lane_core.specs.Shown.{event_of, replies_of, bounds_of, Shows}
use Rattle.lane_core.proofs.run.run_events.Given as goal

abbrev pub invariant-loop-event : goal.invariant-loop-event
invariant-loop-event l = record {
  shows : Shows l.state (final size_of record { cap = l.cap; limit = l.limit } start (map event_of (front l.event-index l.events)));
  replies : l.replies.items ≡ replies_of record { cap = l.cap; limit = l.limit } start (front l.event-index l.events);
  bounds : bounds_of l.state ≡ record { cap = l.cap; limit = l.limit };
  given : l.state.given ≤ l.event-index;
  over : l.state.over ≤ l.event-index;
}
