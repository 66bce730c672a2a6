use Rattle.std.proofs.Common.{List, refl, sym, subst}
use Rattle.rmx_edge.specs.Counted.{with_count}
use Rattle.rmx_media.specs.declared.streams.MuxStream.{MuxStream}
use Rattle.slave.specs.Origin.{Origin}
use Rattle.tee.specs.Route.{IsRoute}
use Rattle.tee.specs.Seat.{Seat}
use Rattle.tee.proofs.output.TeeSlave.open.Goals as goal

pub start-requires : goal.start-requires
start-requires g c =
    let r = c.requires.ready in
    let s = r.2 in
    let d = r.3 in
    let origin : Origin = record { shelf = with_count (g.S.Shelf.state c.args.shelf) 0 0; name = s.name; format = s.format; seg = s.seg; streams = d.streams } in
    (origin, s.fifo, c.with_kit-job.ensures.fresh s.name s.format s.seg s.fifo d.streams d.prepared)

pub returns : goal.returns
returns g c = λ infos script s d.
    let origin : Origin = record { shelf = with_count (g.S.Shelf.state c.args.shelf) 0 0; name = s.name; format = s.format; seg = s.seg; streams = d.streams } in
    let seat : Seat = record { slave = s; origin = origin } in
    let keeps = c.start.ensures origin s.fifo (c.with_kit-job.ensures.fresh s.name s.format s.seg s.fifo d.streams d.prepared) in
    record {
      seat = seat;
      is_seat = record { slave = refl; shelf_is = refl; name = refl; format = refl; seg = refl; streams = d.are_chosen; script_is = d.script_is };
      history = keeps.history;
      sits = record {
        placed = record {
          valid = d.valid;
          format = refl;
          seg = refl;
          streams = d.are_chosen;
          abort = d.abort;
          first = subst (λ (xs : List MuxStream). IsRoute xs s.chains 0 c.args.draft.choice.first) (sym d.are_chosen) d.first;
          second = subst (λ (xs : List MuxStream). IsRoute xs s.chains 1 c.args.draft.choice.second) (sym d.are_chosen) d.second;
        };
        keeps = keeps;
        history_is = refl;
        count = refl;
      };
    }
