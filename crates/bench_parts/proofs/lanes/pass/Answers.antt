use denote.Param.Send.{sendable}
use Rattle.std.proofs.Crossing.{crosses}
use Rattle.lane.proofs.Crosses.{giver_send, lane_sync}
use Rattle.bench_parts.proofs.lanes.pass.Goals as goal

pub join-taken-requires-send-F : goal.join-taken-requires-send-F
join-taken-requires-send-F g c κs within = search (sendable, crosses, giver_send, lane_sync) depth 20

pub join-taken-requires-send-A : goal.join-taken-requires-send-A
join-taken-requires-send-A g c κs within = search (sendable, giver_send) depth 20
