use Rattle.std.proofs.Common.{Some}
use Rattle.lane.proofs.lane.Lane.offer.Given as goal

-- what is offered
abbrev pub ghosts-offer_head : goal.ghosts-offer_head
ghosts-offer_head a = record { item = Some a.msg.now }
