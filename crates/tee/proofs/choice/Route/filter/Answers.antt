use Rattle.tee.proofs.Routes.{whole_left}
use Rattle.tee.proofs.choice.Route.filter.Goals as goal

pub returns-in-Whole : goal.returns-in-Whole
returns-in-Whole c = λ streams chains all route fits. whole_left streams chains all c.args.p.now c.args.self.now c.in-Whole.is route fits
