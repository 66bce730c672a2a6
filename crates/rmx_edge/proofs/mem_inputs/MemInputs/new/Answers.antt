use Rattle.std.proofs.Common.{ℕ, List, Some, arith, ap, false}
use Rattle.rmx_edge.specs.Inputs.{InputView}
use Rattle.rmx_edge.specs.Files.{file_of}
use Rattle.rmx_edge.proofs.FileLemmas.{bytes_at_past}
use Rattle.rmx_edge.proofs.mem_inputs.MemInputs.new.Goals as goal

pub returns-clause-view : goal.returns-clause-view
returns-clause-view c =
    let view : List ℕ → InputView = λ (l : List ℕ). record { bytes_of = file_of c.args.files.items; left = l; ended = false } in
    ap (λ (l : List ℕ). Some (view l)) (bytes_at_past c.args.files.items c.len-none.result (omega arith))
