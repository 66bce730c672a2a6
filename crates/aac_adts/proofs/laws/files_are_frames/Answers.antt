use Rattle.aac_adts.proofs.Frames.{files_are_frames}
use Rattle.aac_adts.proofs.laws.files_are_frames.Goals as goal

pub returns : goal.returns
returns c = files_are_frames
