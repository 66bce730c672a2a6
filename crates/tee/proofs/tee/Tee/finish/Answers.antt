use Rattle.tee.proofs.Finish.{ends_all, fails_some}
use Rattle.tee.proofs.tee.Tee.finish.Goals as goal

pub returns-clause-ends : goal.returns-clause-ends
returns-clause-ends g c = λ seats given k.
    ends_all g.S.Shelf.state c.args.self seats given c.end_all.result.items k
    (c.end_all.ensures c.args.self.infos.items given seats k.stands.histories k.stands.sit)

pub returns-clause-failed : goal.returns-clause-failed
returns-clause-failed g c = λ u dead seats given k want.
    fails_some g.S.Shelf.state c.args.self seats given c.end_all.result.items u k
    (c.end_all.ensures c.args.self.infos.items given seats k.stands.histories k.stands.sit) dead want
