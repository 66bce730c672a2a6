use Rattle.std.proofs.Common.{Some}
use Rattle.lane.proofs.lane.Lane.give.Given as goal

-- what is offered
abbrev pub ghosts-put_head : goal.ghosts-put_head
ghosts-put_head a = record { item = Some a.msg.now }
