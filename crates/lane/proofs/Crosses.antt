-- The two ends may go to another thread, and a lane may be shared.
use denote.Param.Send.{IsSend, IsSync, sendable}
use Rattle.std.proofs.Crossing as std
use Rattle.std.proofs.Crossing.{crosses}
use Rattle.std.specs.contracts.alloc.Global as Heap
use Rattle.std.specs.contracts.impls.GlobalAllocator.TheImpl.{ghosts}
use Rattle.bytes.proofs.block.Block.TheSendSync as block
use Rattle.bytes.proofs.block.Seen.TheSendSync as seen
use Rattle.bytes.specs.contracts.block.Block as Block
use Rattle.bytes.specs.contracts.shared.Bytes as Bytes
use Rattle.atomic_table.proofs.shared.Seat.TheSendSync as seat
use Rattle.atomic_table.proofs.shared.Shared.TheSendSync as shared
use Rattle.atomic_table.proofs.send_lease.SendLease.TheSendSync as lease
use Rattle.lane.specs.contracts.msg.Msg as Msg
use Rattle.lane.specs.contracts.ends.Giver as Giver
use Rattle.lane.specs.contracts.ends.Taker as Taker
use Rattle.lane.specs.contracts.lane.Lane as Lane

block_send : IsSend (Block.the_row Heap.the_row ghosts)
block_send = block.the_send Heap.the_row ghosts std.send std.frees

block_sync : IsSync (Block.the_row Heap.the_row ghosts)
block_sync = block.the_sync Heap.the_row ghosts

bytes_send : IsSend (Bytes.the_row Heap.the_row ghosts)
bytes_send = search (sendable, crosses, seen.the_send, block_send, block_sync) depth 20

-- what lies in a slot
pub msg_send : IsSend Msg.the_row
msg_send = search (sendable, crosses, bytes_send) depth 30

pub giver_send : IsSend Giver.the_row
giver_send = search (sendable, crosses, seat.the_send, bytes_send) depth 40

pub taker_send : IsSend Taker.the_row
taker_send = search (sendable, crosses, seat.the_send, bytes_send) depth 40

pub lane_send : IsSend Lane.the_row
lane_send = search (sendable, crosses, shared.the_send, lease.the_send, bytes_send) depth 40

pub lane_sync : IsSync Lane.the_row
lane_sync = search (sendable, crosses, shared.the_sync, lease.the_sync, bytes_send) depth 40
