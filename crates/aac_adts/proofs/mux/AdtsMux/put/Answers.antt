use Rattle.aac_adts.proofs.Ends.{put_ends}
use Rattle.aac_adts.proofs.mux.AdtsMux.put.Goals as goal

pub returns-then-eq-clause-ends : goal.returns-then-eq-clause-ends
returns-then-eq-clause-ends g c = put_ends c.args.self.now.streams c.args.p.now c.requires.fits

pub returns-clause-ends : goal.returns-clause-ends
returns-clause-ends g c = put_ends c.args.self.now.streams c.args.p.now c.requires.fits
