use Rattle.std.proofs.Common.{inl, inr, refl, ◌∙◌}
use Rattle.slave.proofs.Muxed.{done_runs, failed_runs, still}
use Rattle.slave.proofs.job.SlaveJob.put.Goals as goal

pub returns-in-Ok : goal.returns-in-Ok
returns-in-Ok g c = λ h first before kit after takes.
    let told = c.in-Ok.ensures.run h first before kit.mux after.mux in
    let run = done_runs told in
    record {
      calls = record {
        made = (run.run.calls_made, c.in-Ok.ensures.open refl, refl, refl, run.numbers);
        counts = (still told).counts;
        want_counts = (still told).want_counts;
        sound = (still told).sound;
        safe = λ e x. cc x;
        kit = record { name = kit.name; short = kit.short; counts = kit.counts; video = kit.video; mux = c.in-Ok.ensures.of h kit.mux };
        fifo = refl;
        runs = refl;
        run_places = refl;
        sessions = refl;
        session_places = refl;
      };
      writer = λ e. record { mux = c.in-Ok.ensures.after h first before kit.mux after.mux refl; flushed = λ some. c.in-Ok.ensures.flushed refl };
    }

pub returns-in-Err-NoMemory : goal.returns-in-Err-NoMemory
returns-in-Err-NoMemory g c = λ h first before kit after takes.
    let run = rw c.in-Err-NoMemory.field-0-is at (c.in-Err-NoMemory.ensures.run h first before kit.mux after.mux) in
    record {
      calls = record {
        made = elim run [
          | inl p ↦ inl (p.numbers.0, p.run.writing, refl, refl, p.run.no_memory refl, p.numbers.1)
          | inr x ↦ inr (x.asked_for, x.shelf_kept, refl, refl, x.number_kept)
        ];
        counts = (still run).counts;
        want_counts = (still run).want_counts;
        sound = (still run).sound;
        safe = λ e x. cc x;
        kit = record { name = kit.name; short = kit.short; counts = kit.counts; video = kit.video; mux = c.in-Err-NoMemory.ensures.of h kit.mux };
        fifo = refl;
        runs = refl;
        run_places = refl;
        sessions = refl;
        session_places = refl;
      };
      writer = λ e. absurd (cc e);
    }

pub returns-in-Err-Failed : goal.returns-in-Err-Failed
returns-in-Err-Failed g c = λ h first before kit after takes.
    let told = rw c.in-Err-Failed.field-0-is at (c.in-Err-Failed.ensures.run h first before kit.mux after.mux) in
    let run = failed_runs told in
    record {
      calls = record {
        made = (run.numbers.0, run.run.writing, c.push.ensures.items ∙ rw (c.session-session.ensures.number, c.fault_count-before.ensures, c.fault_count.ensures) refl, c.push.ensures.spare, run.run.failed refl, run.numbers.1);
        counts = (still told).counts;
        want_counts = (still told).want_counts;
        sound = (still told).sound;
        safe = λ e x. (run.run.sound e).ok refl;
        kit = record { name = kit.name; short = kit.short; counts = kit.counts; video = kit.video; mux = c.in-Err-Failed.ensures.of h kit.mux };
        fifo = refl;
        runs = refl;
        run_places = refl;
        sessions = refl;
        session_places = refl;
      };
      writer = λ e. absurd (cc e);
    }
