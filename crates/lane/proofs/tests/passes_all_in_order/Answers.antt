use denote.Param.Send.{sendable}
use Rattle.std.proofs.Crossing.{crosses}
use Rattle.lane.proofs.Crosses.{giver_send, lane_sync}
use Rattle.lane.proofs.tests.passes_all_in_order.Goals as goal

pub join-giver-requires-send-F : goal.join-giver-requires-send-F
join-giver-requires-send-F g c κs within = search (sendable, crosses, giver_send, lane_sync) depth 20

pub join-giver-requires-send-A : goal.join-giver-requires-send-A
join-giver-requires-send-A g c κs within = search (sendable, giver_send) depth 20
