-- A session that was opened.
use Rattle.std.proofs.Common.{◌≡◌, ℕ, ◌+◌, List, true, false, [], ◌∷◌, ◌++◌, refl, ◌∙◌}
use Rattle.fifo_core.specs.declared.types.Answer.{Answer}
use Rattle.fifo_core.specs.declared.types.Answer.TheVariants as answer
use Rattle.fifo_core.specs.State.{session_in}
use Rattle.fifo_core.specs.History.{answered_done}
use Rattle.slave.specs.declared.records.FaultAt.TheVariants.{Begin}
use Rattle.slave.specs.declared.records.SessionNote.{SessionNote}
use Rattle.slave.specs.Origin.{Origin}
use Rattle.slave.specs.Calls.{begin_calls}
use Rattle.slave.specs.Job.{JobView, Begins, Opens, CallsMade, number_of}

-- the same answer, with another session noted
abbrev pub noted : JobView → List SessionNote → ℕ → JobView
noted w sessions places = record w { sessions = sessions; session_places = places }

made_so : {out : Origin} (a : Answer) (v w : JobView) (sessions : List SessionNote) (places : ℕ) → Begins out v a w
    → CallsMade out.seg (begin_calls out (number_of v) (session_in v.fifo)) Begin true v a (noted w sessions places)
made_so answer.Done v w sessions places b = b.calls.made
made_so answer.Fault v w sessions places b = b.calls.made
made_so answer.NoMemory v w sessions places b = b.calls.made

-- the file was begun, and then the session's note was made
pub opened : {out : Origin} (a : Answer) (v w : JobView) (sessions : List SessionNote) (places : ℕ) → Begins out v a w
    → sessions ≡ w.sessions ++ record { number = session_in v.fifo; begun = answered_done a; closed = false } ∷ [] → places + 1 ≡ w.session_places
    → Opens out v a (noted w sessions places)
opened a v w sessions places b noted_so taken = record {
  made = made_so a v w sessions places b;
  counts = b.calls.counts;
  want_counts = b.calls.want_counts;
  sound = b.calls.sound;
  safe = b.calls.safe;
  kit = b.calls.kit;
  writer = b.writer;
  fifo = b.calls.fifo;
  runs = b.calls.runs;
  run_places = b.calls.run_places;
  sessions = noted_so ∙ rw b.calls.sessions refl;
  session_places = taken ∙ b.calls.session_places;
}
