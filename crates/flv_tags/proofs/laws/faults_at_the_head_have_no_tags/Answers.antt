use Rattle.flv_tags.proofs.Verdicts.{no_tags}
use Rattle.flv_tags.proofs.laws.faults_at_the_head_have_no_tags.Goals as goal

pub returns : goal.returns
returns c = no_tags
