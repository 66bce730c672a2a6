use Rattle.std.proofs.Common.{◌≡◌, Some, refl, inl, inr, arith, ◌∷◌, ap, ◌∙◌, length}
use Rattle.fifo_core.specs.State.{Shows, next_of}
use Rattle.fifo_core.specs.History.{Want}
use Rattle.slave.proofs.job.SlaveJob.tell.Goals as goal

pub returns-in-Done : goal.returns-in-Done
returns-in-Done g c = λ o h i facts s. rw c.in-Done.is (record {
  told = h;
  may = inl refl;
  result = c.on_answer.ensures.after o h i facts s;
  shows = c.on_answer.ensures.turn o h i facts s;
  next = c.on_answer.ensures.next;
  shelf = refl;
  kit = refl;
  runs = refl;
  sessions = refl;
  faults = refl;
  run_places = omega arith;
  session_places = omega arith;
  fault_places = omega arith;
  not_asked = λ e. refl;
  granted = λ e. absurd (cc e);
})

pub returns-in-NoMemory : goal.returns-in-NoMemory
returns-in-NoMemory g c = λ o h i facts s. rw c.in-NoMemory.is (record {
  told = h;
  may = inl refl;
  result = c.on_answer-in-NoMemory.ensures.after o h i facts s;
  shows = c.on_answer-in-NoMemory.ensures.turn o h i facts s;
  next = c.on_answer-in-NoMemory.ensures.next;
  shelf = refl;
  kit = refl;
  runs = refl;
  sessions = refl;
  faults = refl;
  run_places = omega arith;
  session_places = omega arith;
  fault_places = omega arith;
  not_asked = λ e. refl;
  granted = λ e. absurd (cc e);
})

pub returns-then-ask : goal.returns-then-ask
returns-then-ask g c = λ o h i facts s.
    let k = c.ask.ensures in
    let t : Shows o h (Some (i, facts)) c.ask.new.self.fifo = rw k.fifo s in
    rw c.in-Fault.is (record {
      told = h;
      may = inl refl;
      result = c.on_answer-then-ask.ensures.after o h i facts t;
      shows = c.on_answer-then-ask.ensures.turn o h i facts t;
      next = c.on_answer-then-ask.ensures.next ∙ ap next_of k.fifo;
      shelf = k.shelf;
      kit = k.kit;
      runs = k.runs;
      sessions = k.sessions;
      faults = k.faults;
      run_places = k.run_places;
      session_places = k.session_places;
      fault_places = k.fault_places;
      not_asked = λ e. refl;
      granted = λ e same. k.granted_all c.if-ask.true;
    })

pub returns-else-ask : goal.returns-else-ask
returns-else-ask g c = λ o h i facts s.
    let k = c.ask.ensures in
    let t : Shows o h (Some (i, facts)) c.ask.new.self.fifo = rw k.fifo s in
    let u = c.on_want.ensures.turn o h (Some (i, facts)) t in
    rw c.in-Fault.is (record {
      told = Want ∷ h;
      may = inr refl;
      result = c.on_answer-else-ask.ensures.after o (Want ∷ h) i facts u;
      shows = c.on_answer-else-ask.ensures.turn o (Want ∷ h) i facts u;
      next = c.on_answer-else-ask.ensures.next ∙ c.on_want.ensures.next ∙ ap next_of k.fifo;
      shelf = k.shelf;
      kit = k.kit;
      runs = k.runs;
      sessions = k.sessions;
      faults = k.faults;
      run_places = k.run_places;
      session_places = k.session_places;
      fault_places = k.fault_places;
      not_asked = λ e. absurd (cc e);
      granted = λ e same. let n : length (Want ∷ h) ≡ length h = ap length same in absurd (omega arith);
    })
