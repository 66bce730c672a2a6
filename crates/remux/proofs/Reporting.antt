-- A report that was written.
use Rattle.std.proofs.Common.{◌≡◌, ℕ, ◌+◌, ◌<◌, ◌≤◌, List, [], ◌∷◌, ◌++◌, length, refl, ap, ◌∙◌, sym, arith, Ok, Err}
use Rattle.std.proofs.lemmas.List.{drop_more}
use Rattle.std.specs.Prelude.{zero, suc, drop, get_or}
use Rattle.slave.specs.declared.job.SlaveEnd.{SlaveEnd}
use Rattle.remux.specs.declared.run.Outcome.{Outcome}
use Rattle.rmx_edge.specs.declared.inputs.Failed.{Failed}
use Rattle.rmx_edge.specs.Sink.{SinkState, Puts}
use Rattle.remux.specs.declared.status.Status.{Status}
use Rattle.remux.specs.declared.status.Status.TheVariants as status
use Rattle.remux.specs.Report.{ReportsBy, unreported, account, heads, slave_line, slave_lines}

pub reports_ok : (s : Status) (text : List ℕ) (old new : SinkState) → (s ≡ status.ReportFault → ⊥) → Puts {T = Unit {0}} {E = Failed} text (Ok (tt {0})) old new → ReportsBy s text old new
reports_ok status.Done text old new n p = p
reports_ok (status.Words f) text old new n p = (Ok (tt {0}), p)
reports_ok status.InputFault text old new n p = (Ok (tt {0}), p)
reports_ok (status.InputRefused r) text old new n p = (Ok (tt {0}), p)
reports_ok (status.InputEnded e) text old new n p = (Ok (tt {0}), p)
reports_ok (status.SlaveFailed k) text old new n p = (Ok (tt {0}), p)
reports_ok status.NoMemory text old new n p = (Ok (tt {0}), p)
reports_ok status.ReportFault text old new n p = absurd (n refl)

pub reports_err : (s : Status) (text : List ℕ) (e : Failed) (old new : SinkState) → (s ≡ status.ReportFault → ⊥) → Puts {T = Unit {0}} {E = Failed} text (Err e) old new → ReportsBy (unreported s) text old new
reports_err status.Done text e old new n p = p
reports_err (status.Words f) text e old new n p = (Err e, p)
reports_err status.InputFault text e old new n p = (Err e, p)
reports_err (status.InputRefused r) text e old new n p = (Err e, p)
reports_err (status.InputEnded x) text e old new n p = (Err e, p)
reports_err (status.SlaveFailed k) text e old new n p = (Err e, p)
reports_err status.NoMemory text e old new n p = (Err e, p)
reports_err status.ReportFault text e old new n p = absurd (n refl)

-- the line of an output, and then those behind it
pub lines_at : {S : Type 0} (ends : List (SlaveEnd S)) (k : ℕ) (e : SlaveEnd S) → e ≡ get_or ends k e → k < length ends → slave_lines k (drop k ends) ≡ slave_line k e ++ slave_lines (k + 1) (drop (k + 1) ends)
lines_at ends k e is lt = ap (slave_lines k) (drop_more ends k e lt) ∙ ap (λ (x : SlaveEnd _). slave_line k x ++ slave_lines (k + 1) (drop (k + 1) ends)) (sym is)

past : {A : Type 0} (n : ℕ) (xs : List A) → length xs ≤ n → drop n xs ≡ []
past zero [] le = refl
past (suc n) [] le = refl
past zero (x ∷ xs) le = absurd (omega (arith, le))
past (suc n) (x ∷ xs) le = past n xs (omega (arith, le))

pub lines_end : {S : Type 0} (ends : List (SlaveEnd S)) (k : ℕ) → length ends ≤ k → slave_lines k (drop k ends) ≡ []
lines_end ends k le = ap (slave_lines k) (past k ends le)

-- what is said of outputs that were made
pub account_some : {S : Type 0} (o : Outcome S) (ends : List (SlaveEnd S)) → 1 ≤ length ends → account o ends ≡ heads o ++ slave_lines 0 ends
account_some o [] le = absurd (omega (arith, le))
account_some o (e ∷ es) le = refl
