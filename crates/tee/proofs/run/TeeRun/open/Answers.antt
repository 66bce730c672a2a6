use Rattle.std.proofs.Common.{◌≡◌, List, [], ℕ, Bool, None, false, refl, sym, ◌∙◌, ap, subst}
use Rattle.tee.specs.Attends.{Attends}
use Rattle.tee.specs.Berths.{inlines}
use Rattle.tee.specs.Each.{Each3}
use Rattle.tee.specs.Fails.{stops}
use Rattle.tee.specs.Keeps.{stopped_with}
use Rattle.tee.specs.RunKeeps.{IsCounted}
use Rattle.tee.specs.Seat.{AreSeats, aborts}
use Rattle.tee.specs.Tracks.{known_deads}
use Rattle.tee.specs.declared.outlet.Outlet.{Outlet}
use Rattle.tee.proofs.Attending.{stand_all}
use Rattle.tee.proofs.Knowing.{watch_none}
use Rattle.tee.proofs.RunOpening.{inlines_are}
use Rattle.tee.proofs.run.TeeRun.open.Goals as goal
use Rattle.tee.proofs.run.TeeRun.open.Goals.{then-is_any_over, else-is_any_over}

pub returns-clause-made : goal.returns-clause-made
returns-clause-made g c = λ script plans z.
    let infos = c.args.lists.infos.items in
    let o = c.open_each-outlets.ensures.open infos script plans z in
    let attend = subst (λ (os : List (Outlet g.row.S.Denot g.row.G.Denot g.S.Shelf)). Each3 (Attends g.S.Shelf.state infos [] 0 false) o.seats o.tracks os) (sym c.into_vec-outlets.ensures) o.attend in
    let listed = subst (λ (os : List (Outlet g.row.S.Denot g.row.G.Denot g.S.Shelf)). Each3 (Attends g.S.Shelf.state infos [] 0 false) o.seats o.tracks os) (sym c.as_slice.ensures.value) attend in
    let over = stops (aborts o.seats) (known_deads o.seats o.tracks) in
    let is = c.is_any_over.ensures infos [] 0 o.seats o.tracks listed in
    let stopped : c.if-is_any_over.stopped ≡ stopped_with None over 0 = elim c.if-is_any_over.branch [
      | then-is_any_over w ↦ w.stopped-is ∙ ap (λ (b : Bool). stopped_with None b 0) (sym w.if-is_any_over.true ∙ is)
      | else-is_any_over w ↦ w.stopped-is ∙ ap (λ (b : Bool). stopped_with None b 0) (sym w.if-is_any_over.false ∙ is)
    ] in
    let stood = stand_all g.S.Shelf.state infos [] 0 o.seats o.tracks c.into_vec-outlets.result.items refl attend in (
      o.seats,
      subst (λ (xs : List g.row.S.Denot). AreSeats g.S.Shelf.state infos script plans xs o.seats c.open_each-outlets.result.1.items) c.from_vec.ensures o.are_seats,
      record {
        stands = record {
          are_infos = c.requires.infos;
          tracks = o.tracks;
          attend = attend;
          watches = watch_none o.seats o.tracks c.if-is_any_over.stopped stood stopped;
        };
        few = rw (c.into_vec-outlets.ensures, c.open_each-outlets.ensures.len) c.requires.few;
        none_ended = c.requires.none_ended;
        room = rw (c.into_vec-outlets.ensures, c.open_each-outlets.ensures.len) c.requires.end_places;
      },
      subst (λ (n : ℕ). IsCounted n (g.P.Spawner.refused c.args.spawner.now) (g.P.Spawner.refused c.open_each-outlets.new.spawner))
          (ap inlines (sym c.into_vec-outlets.ensures) ∙ inlines_are g.S.Shelf.state infos [] 0 o.seats o.tracks c.into_vec-outlets.result.items attend) c.open_each-outlets.ensures.counted,
    )
