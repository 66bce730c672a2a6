use Rattle.ts_mux.proofs.LawLemmas.{all_cells}
use Rattle.ts_mux.proofs.laws.files_are_cells.Goals as goal

pub returns : goal.returns
returns c = all_cells
