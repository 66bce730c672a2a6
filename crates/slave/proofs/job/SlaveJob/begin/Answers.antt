use Rattle.std.proofs.Common.{inl, inr, refl, ◌∙◌}
use Rattle.slave.proofs.Muxed.{done_runs, failed_runs, still}
use Rattle.slave.proofs.job.SlaveJob.begin.Goals as goal

pub file_name-name-requires : goal.file_name-name-requires
file_name-name-requires g c = (c.requires.kit.0, c.requires.kit.1)

pub returns-in-Ok : goal.returns-in-Ok
returns-in-Ok g c = λ h kit.
    let told = rw (c.as_str.ensures.value, c.file_name-name.ensures h kit, c.session-session.ensures.number) at (c.in-Ok.ensures.run h kit.mux) in
    let run = done_runs told in
    record {
      calls = record {
        made = (run.run.calls_made, c.in-Ok.ensures.open refl, refl, refl, run.numbers);
        counts = (still told).counts;
        want_counts = (still told).want_counts;
        sound = (still told).sound;
        safe = λ e x. cc x;
        kit = record { name = kit.name; short = kit.short; counts = kit.counts; video = kit.video; mux = c.in-Ok.ensures.of h kit.mux };
        fifo = refl;
        runs = refl;
        run_places = refl;
        sessions = refl;
        session_places = refl;
      };
      writer = λ e. record { mux = c.in-Ok.ensures.after h kit.mux refl; flushed = λ some. absurd (some refl) };
    }

pub returns-in-Err-NoMemory : goal.returns-in-Err-NoMemory
returns-in-Err-NoMemory g c = λ h kit.
    let run = rw (c.in-Err-NoMemory.field-0-is, c.as_str.ensures.value, c.file_name-name.ensures h kit, c.session-session.ensures.number) at (c.in-Err-NoMemory.ensures.run h kit.mux) in
    record {
      calls = record {
        made = elim run [
          | inl p ↦ inl (p.numbers.0, p.run.writing, refl, refl, p.run.no_memory refl, p.numbers.1)
          | inr x ↦ inr (x.asked_for, x.shelf_kept, refl, refl, x.number_kept)
        ];
        counts = (still run).counts;
        want_counts = (still run).want_counts;
        sound = (still run).sound;
        safe = λ e x. cc x;
        kit = record { name = kit.name; short = kit.short; counts = kit.counts; video = kit.video; mux = c.in-Err-NoMemory.ensures.of h kit.mux };
        fifo = refl;
        runs = refl;
        run_places = refl;
        sessions = refl;
        session_places = refl;
      };
      writer = λ e. absurd (cc e);
    }

pub returns-in-Err-Failed : goal.returns-in-Err-Failed
returns-in-Err-Failed g c = λ h kit.
    let told = rw (c.in-Err-Failed.field-0-is, c.as_str.ensures.value, c.file_name-name.ensures h kit, c.session-session.ensures.number) at (c.in-Err-Failed.ensures.run h kit.mux) in
    let run = failed_runs told in
    record {
      calls = record {
        made = (run.numbers.0, run.run.writing, c.push.ensures.items ∙ rw (c.session-session.ensures.number, c.fault_count-before.ensures, c.fault_count.ensures) refl, c.push.ensures.spare, run.run.failed refl, run.numbers.1);
        counts = (still told).counts;
        want_counts = (still told).want_counts;
        sound = (still told).sound;
        safe = λ e x. (run.run.sound e).ok refl;
        kit = record { name = kit.name; short = kit.short; counts = kit.counts; video = kit.video; mux = c.in-Err-Failed.ensures.of h kit.mux };
        fifo = refl;
        runs = refl;
        run_places = refl;
        sessions = refl;
        session_places = refl;
      };
      writer = λ e. absurd (cc e);
    }
