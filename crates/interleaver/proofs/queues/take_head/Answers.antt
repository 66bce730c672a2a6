use Rattle.std.proofs.Common.{◌≡◌, true, false}
use Rattle.interleaver.proofs.Lines.{take_first, take_second}
use Rattle.interleaver.specs.Queues.{front_dts, second_leads}
use Rattle.interleaver.proofs.queues.take_head.Goals as goal

pub returns-then-second_leads-clause-head : goal.returns-then-second_leads-clause-head
returns-then-second_leads-clause-head c =
    let t : second_leads (front_dts c.args.first.now.items) (front_dts c.args.second.now.items) ≡ true = cc (c.front_dts.ensures, c.front_dts-2.ensures, c.second_leads.ensures, c.if-second_leads.true) in
    take_second c.requires.first.0 c.requires.second.0 _ _ _ _ c.requires.first.1 c.requires.second.1 t c.pop_front.ensures.items c.pop_front.ensures.rest

pub returns-else-second_leads-clause-head : goal.returns-else-second_leads-clause-head
returns-else-second_leads-clause-head c =
    let t : second_leads (front_dts c.args.first.now.items) (front_dts c.args.second.now.items) ≡ false = cc (c.front_dts.ensures, c.front_dts-2.ensures, c.second_leads.ensures, c.if-second_leads.false) in
    take_first c.requires.first.0 c.requires.second.0 _ _ _ _ c.requires.first.1 c.requires.second.1 t c.pop_front-else-second_leads.ensures.items c.pop_front-else-second_leads.ensures.rest
