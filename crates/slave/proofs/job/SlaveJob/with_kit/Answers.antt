use Rattle.std.proofs.Common.{refl, ap, ◌∙◌}
use Rattle.rmx_edge.specs.Shelf.{ShelfState}
use Rattle.slave.specs.Origin.{Origin}
use Rattle.rmx_edge.specs.Counted.{with_count}
use Rattle.slave.proofs.job.SlaveJob.with_kit.Goals as goal

pub returns : goal.returns
returns g c =
    let same = rw (← c.new-2.ensures.inner) at c.new.ensures.state in
    record {
      fresh = λ name format seg o streams k.
          let out : Origin = record { shelf = with_count (g.S.Shelf.state c.args.shelf) 0 0; name = name; format = format; seg = seg; streams = streams } in
          record {
            shelf = same;
            kit = record { name = k.name_is; short = k.short; counts = refl; video = k.video; mux = k.mux out refl refl refl refl };
            number = k.number;
            idle = ap (λ (s : ShelfState). s.writing) same ∙ c.requires.idle;
            shows = k.shows;
            next = k.next;
            runs = k.runs;
            sessions = k.sessions;
            faults = k.faults;
            run_places = k.run_places;
            session_places = k.session_places;
            fault_places = k.fault_places;
          };
    }
