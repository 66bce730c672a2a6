use Rattle.rmx_edge.proofs.Known.{keeps_keeps}
use Rattle.rmx_edge.proofs.gathered.read_some.Goals as goal

pub returns-in_default-clause-told : goal.returns-in_default-clause-told
returns-in_default-clause-told g c =
    keeps_keeps (g.F.Read.remaining c.args.file.now) (g.F.Read.remaining c.loop.file) (g.F.Read.remaining c.read.new.self) c.loop.invariant c.in-Err.ensures.bytes
