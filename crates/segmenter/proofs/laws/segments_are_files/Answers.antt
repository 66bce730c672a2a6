use Rattle.segmenter.proofs.LawLemmas.{segments_are_files}
use Rattle.segmenter.proofs.laws.segments_are_files.Goals as goal

pub returns : goal.returns
returns c = segments_are_files
