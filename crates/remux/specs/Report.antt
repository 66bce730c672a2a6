-- What a run reports.
use Rattle.std.specs.Prelude.{ℕ, ◌+◌, min, List, [], ◌∷◌, ◌++◌, fold, length, codes, decimal, Result, Ok, Err}
use Rattle.rmx_edge.specs.Count.{most}
use Rattle.rmx_edge.specs.declared.inputs.Failed.{Failed}
use Rattle.rmx_edge.specs.Sink.{SinkState, Puts}
use Rattle.flv_demux.specs.declared.deal.Discards.{Discards}
use Rattle.fifo_core.specs.declared.types.Fate.{Fate}
use Rattle.fifo_core.specs.declared.types.Fate.TheVariants as fate
use Rattle.fifo_core.specs.declared.types.EndState.{EndState}
use Rattle.fifo_core.specs.declared.types.EndState.TheVariants as end_state
use Rattle.options.specs.declared.fault.WordKind.{WordKind}
use Rattle.options.specs.declared.fault.WordKind.TheVariants as kind
use Rattle.slave.specs.declared.records.Run.{Run}
use Rattle.slave.specs.declared.job.SlaveEnd.{SlaveEnd}
use Rattle.remux.specs.declared.report.Totals.{Totals}
use Rattle.remux.specs.declared.run.Outcome.{Outcome}
use Rattle.remux.specs.declared.status.Status.{Status}
use Rattle.remux.specs.declared.status.Status.TheVariants as status
use Rattle.remux.specs.declared.status.Refusal.TheVariants as refusal
use Rattle.remux.specs.declared.status.Ending.TheVariants as ending

-- the number that the process ends with
abbrev pub number_of : Status → ℕ
number_of status.Done = 0
number_of (status.Words f) = 1
number_of status.InputFault = 2
number_of (status.InputRefused r) = 3
number_of (status.InputEnded e) = 4
number_of (status.SlaveFailed k) = 5
number_of status.NoMemory = 6
number_of status.ReportFault = 7

-- the number of a word's fault
abbrev pub number_of_kind : WordKind → ℕ
number_of_kind kind.UnknownWord = 1
number_of_kind kind.MissingValue = 2
number_of_kind kind.NoInput = 3
number_of_kind kind.NoOutput = 4
number_of_kind kind.UnknownFormat = 5
number_of_kind kind.UnknownOption = 6
number_of_kind kind.BadValue = 7
number_of_kind kind.DanglingEscape = 8
number_of_kind kind.UnclosedBlock = 9
number_of_kind kind.TooManySlaves = 10
number_of_kind kind.SameTarget = 11
number_of_kind kind.BadTemplate = 12
number_of_kind kind.BadFilter = 13
number_of_kind kind.NameTooLong = 14
number_of_kind kind.NoMemory = 15

-- a number behind its name
abbrev pub field : List ℕ → ℕ → List ℕ
field name number = name ++ decimal number

-- a status in words; what the report can't say of itself is said of the run
abbrev pub status_text : Status → List ℕ
status_text status.Done = codes "status 0 done"
status_text (status.Words f) = field (codes "status 1 words fault=") (number_of_kind f.kind) ++ field (codes " word=") f.word
status_text status.InputFault = codes "status 2 input fault"
status_text (status.InputRefused refusal.NotFlv) = codes "status 3 refused not-flv"
status_text (status.InputRefused refusal.BadOffset) = codes "status 3 refused bad-offset"
status_text (status.InputRefused refusal.NoStreams) = codes "status 3 refused no-streams"
status_text (status.InputRefused (refusal.NoneSelected k)) = field (codes "status 3 refused none-selected slave=") k
status_text (status.InputEnded ending.Cut) = codes "status 4 ended cut"
status_text (status.InputEnded ending.Limit) = codes "status 4 ended limit"
status_text (status.SlaveFailed k) = field (codes "status 5 slave ") k ++ codes " failed"
status_text status.NoMemory = codes "status 6 no memory"
status_text status.ReportFault = codes "status 0 done"

abbrev pub status_line : Status → List ℕ
status_line s = status_text s ++ 10 ∷ []

abbrev pub tags_line : ℕ → ℕ → List ℕ
tags_line tags upto = field (codes "tags ") tags ++ (field (codes " packets ") upto ++ 10 ∷ [])

abbrev pub discards_text : Discards → List ℕ
discards_text d =
    field (codes "discards script=") d.script ++ (field (codes " unsupported=") d.unsupported ++ (field (codes " nostream=") d.no_stream
    ++ (field (codes " corrupt=") d.corrupt ++ (field (codes " command=") d.command ++ (field (codes " seqend=") d.sequence_end
    ++ field (codes " repeat=") d.config_repeat)))))

abbrev pub discards_line : Discards → List ℕ
discards_line d = discards_text d ++ 10 ∷ []

-- sums stand still at the end of 64 bits
abbrev pub plus : ℕ → ℕ → ℕ
plus a b = min (a + b) most

abbrev pub no_totals : Totals
no_totals = record { written = 0; refused = 0; flushed = 0; key_wait = 0; lost = 0; after = 0; no_memory = 0 }

-- so many packets more with that fate
abbrev pub with_fate : Fate → ℕ → Totals → Totals
with_fate (fate.Written s) n t = record t { written = plus t.written n }
with_fate (fate.Refused v) n t = record t { refused = plus t.refused n }
with_fate (fate.Flushed v) n t = record t { flushed = plus t.flushed n }
with_fate fate.KeyWait n t = record t { key_wait = plus t.key_wait n }
with_fate (fate.Lost f) n t = record t { lost = plus t.lost n }
with_fate (fate.AfterFailure f) n t = record t { after = plus t.after n }
with_fate fate.NoMemory n t = record t { no_memory = plus t.no_memory n }

-- how many packets have each fate
unfoldable pub totals_of : List Run → Totals
totals_of runs = fold (λ t r. with_fate r.fate r.count t) no_totals runs

abbrev pub state_text : EndState → List ℕ
state_text end_state.Closed = codes " closed"
state_text end_state.Failed = codes " failed"
state_text end_state.NoMemory = codes " nomemory"

abbrev pub totals_text : Totals → List ℕ
totals_text t =
    field (codes " written=") t.written ++ (field (codes " refused=") t.refused ++ (field (codes " flushed=") t.flushed
    ++ (field (codes " keywait=") t.key_wait ++ (field (codes " lost=") t.lost ++ (field (codes " after=") t.after ++ field (codes " nomem=") t.no_memory)))))

abbrev pub slave_line : {S : Type 0} → ℕ → SlaveEnd S → List ℕ
slave_line k e =
    field (codes "slave ") k ++ (state_text e.state ++ (totals_text (totals_of e.fates.items)
    ++ (field (codes " sessions=") (length e.sessions.items) ++ (field (codes " bytes=") e.bytes ++ 10 ∷ []))))

-- the lines of the outputs from that number on
abbrev pub slave_lines : {S : Type 0} → ℕ → List (SlaveEnd S) → List ℕ
slave_lines k [] = []
slave_lines k (e ∷ es) = slave_line k e ++ slave_lines (k + 1) es

-- what was read, and what was passed over
abbrev pub heads : {S : Type 0} → Outcome S → List ℕ
heads o = tags_line o.tags o.upto ++ discards_line o.discards

-- what is said before the status: nothing where no output was made
abbrev pub account : {S : Type 0} → Outcome S → List (SlaveEnd S) → List ℕ
account o [] = []
account o (e ∷ es) = heads o ++ slave_lines 0 (e ∷ es)

-- the report of an outcome
abbrev pub report : {S : Type 0} → Outcome S → List ℕ
report o = account o o.ends.items ++ status_line o.status

-- the report was written, or a part of it where the sink failed; a run that was done ends with ReportFault then
abbrev pub ReportsBy : Status → List ℕ → SinkState → SinkState → Type 0
ReportsBy status.Done text old new = Puts {T = Unit {0}} {E = Failed} text (Ok (tt {0})) old new
ReportsBy status.ReportFault text old new = Puts {T = Unit {0}} {E = Failed} text (Err record {}) old new
ReportsBy s text old new = (r : Result (Unit {0}) Failed) × Puts text r old new

abbrev pub Reports : {S : Type 0} → Outcome S → SinkState → SinkState → Type 0
Reports o old new = ReportsBy o.status (report o) old new

-- how a run ends that ended so, and whose report could not be written
abbrev pub unreported : Status → Status
unreported status.Done = status.ReportFault
unreported (status.Words f) = status.Words f
unreported status.InputFault = status.InputFault
unreported (status.InputRefused r) = status.InputRefused r
unreported (status.InputEnded e) = status.InputEnded e
unreported (status.SlaveFailed k) = status.SlaveFailed k
unreported status.NoMemory = status.NoMemory
unreported status.ReportFault = status.ReportFault
