use Rattle.flv_mux.proofs.Files.{files_are_tags}
use Rattle.flv_mux.proofs.laws.files_are_tags.Goals as goal

pub returns : goal.returns
returns c = files_are_tags
