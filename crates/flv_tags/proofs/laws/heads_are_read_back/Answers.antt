use Rattle.flv_tags.proofs.Written.{read_back}
use Rattle.flv_tags.proofs.laws.heads_are_read_back.Goals as goal

pub returns : goal.returns
returns c = read_back
