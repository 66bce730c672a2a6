use Rattle.std.proofs.Common.{inl, refl, ◌∙◌}
use Rattle.slave.proofs.job.SlaveJob.end.Goals as goal

pub returns-in-Ok : goal.returns-in-Ok
returns-in-Ok g c = λ h first before kit after.
    let run = c.in-Ok.ensures.run h first before kit.mux after.mux in
    record {
      made = (run.calls_made, c.in-Ok.ensures.idle h first before kit.mux after.mux, refl, refl, c.in-Ok.ensures.number);
      counts = run.faults;
      want_counts = run.wants;
      sound = λ e. (let s = run.sound e in (s.sound, s.faults));
      safe = λ e x. cc x;
      fifo = refl;
      runs = refl;
      sessions = c.close_last.ensures;
    }

pub returns-in-Err-NoMemory : goal.returns-in-Err-NoMemory
returns-in-Err-NoMemory g c = λ h first before kit after.
    let run = rw c.in-Err-NoMemory.field-0-is at (c.in-Err-NoMemory.ensures.run h first before kit.mux after.mux) in
    record {
      made = inl (run.calls_made, run.writing, refl, refl, run.no_memory refl, c.in-Err-NoMemory.ensures.number);
      counts = run.faults;
      want_counts = run.wants;
      sound = λ e. (let s = run.sound e in (s.sound, s.faults));
      safe = λ e x. cc x;
      fifo = refl;
      runs = refl;
      sessions = refl;
    }

pub returns-in-Err-Failed : goal.returns-in-Err-Failed
returns-in-Err-Failed g c = λ h first before kit after.
    let run = rw c.in-Err-Failed.field-0-is at (c.in-Err-Failed.ensures.run h first before kit.mux after.mux) in
    record {
      made = (run.calls_made, run.writing, c.push.ensures.items ∙ rw (c.session-session.ensures.number, c.fault_count-before.ensures, c.fault_count.ensures) refl, c.push.ensures.spare, run.failed refl, c.in-Err-Failed.ensures.number);
      counts = run.faults;
      want_counts = run.wants;
      sound = λ e. (let s = run.sound e in (s.sound, s.faults));
      safe = λ e x. (run.sound e).ok refl;
      fifo = refl;
      runs = refl;
      sessions = refl;
    }
