use Rattle.std.proofs.Common.{suc}
use Rattle.lane.proofs.Waits.{looked_again}
use Rattle.lane.proofs.lane.Lane.take_wait.Goals as goal

pub loop-preserved : goal.loop-preserved
loop-preserved g c = (suc c.loop.invariant.0, looked_again c.args.taker.now c.loop.taker c.take.new.taker c.loop.invariant.0 c.loop.invariant.1 c.in-Empty.ensures)
