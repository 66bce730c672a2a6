use Rattle.segmenter.proofs.ListLemmas.{lists_name_files}
use Rattle.segmenter.proofs.laws.lists_name_files.Goals as goal

pub returns : goal.returns
returns c = lists_name_files
