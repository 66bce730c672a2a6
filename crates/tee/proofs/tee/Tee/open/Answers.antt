use Rattle.std.proofs.Common.{◌≡◌, List, [], Bool, None, sym, ◌∙◌, ap, subst}
use Rattle.tee.specs.Fails.{stops}
use Rattle.tee.specs.Keeps.{stopped_with}
use Rattle.tee.specs.Seat.{AreSeats, aborts}
use Rattle.tee.specs.Sits.{AllSit, deads}
use Rattle.tee.specs.declared.output.TeeSlave.{TeeSlave}
use Rattle.tee.proofs.Watching.{watch_first}
use Rattle.tee.proofs.tee.Tee.open.Goals as goal
use Rattle.tee.proofs.tee.Tee.open.Goals.{then-is_over, else-is_over}

pub is_over-requires : goal.is_over-requires
is_over-requires g c =
    let r = c.requires.drafts in
    let infos = c.args.room.infos.items in
    let o = c.open_all-slaves.ensures.open infos r.0 r.1 r.2 in
    let sit = subst (λ (ts : List (TeeSlave g.row.S.Denot g.S.Shelf)). AllSit g.S.Shelf.state infos [] o.seats o.histories ts) (sym c.into_vec-slaves.ensures) o.sit in (
      infos,
      [],
      o.seats,
      o.histories,
      subst (λ (ts : List (TeeSlave g.row.S.Denot g.S.Shelf)). AllSit g.S.Shelf.state infos [] o.seats o.histories ts) (sym c.as_slice.ensures.value) sit,
    )

pub returns-clause-made : goal.returns-clause-made
returns-clause-made g c = λ script plans z.
    let infos = c.args.room.infos.items in
    let o = c.open_all-slaves.ensures.open infos script plans z in
    let sit = subst (λ (ts : List (TeeSlave g.row.S.Denot g.S.Shelf)). AllSit g.S.Shelf.state infos [] o.seats o.histories ts) (sym c.into_vec-slaves.ensures) o.sit in
    let listed = subst (λ (ts : List (TeeSlave g.row.S.Denot g.S.Shelf)). AllSit g.S.Shelf.state infos [] o.seats o.histories ts) (sym c.as_slice.ensures.value) sit in
    let over = stops (aborts o.seats) (deads o.seats o.histories) in
    let is = c.is_over.ensures infos [] o.seats o.histories listed in
    let stopped : c.if-is_over.stopped ≡ stopped_with None over 0 = elim c.if-is_over.branch [
      | then-is_over w ↦ w.stopped-is ∙ ap (λ (b : Bool). stopped_with None b 0) (sym w.if-is_over.true ∙ is)
      | else-is_over w ↦ w.stopped-is ∙ ap (λ (b : Bool). stopped_with None b 0) (sym w.if-is_over.false ∙ is)
    ] in (
      o.seats,
      subst (λ (xs : List g.row.S.Denot). AreSeats g.S.Shelf.state infos script plans xs o.seats c.open_all-slaves.result.1.items) c.from_vec.ensures o.are_seats,
      record {
        stands = record {
          are_infos = c.requires.infos;
          histories = o.histories;
          sit = sit;
          watches = watch_first g.S.Shelf.state infos o.seats o.histories c.into_vec-slaves.result.items c.if-is_over.stopped sit stopped;
        };
        few = rw (c.into_vec-slaves.ensures, c.open_all-slaves.ensures.len) c.requires.few;
        none_ended = c.requires.none_ended;
        room = rw (c.into_vec-slaves.ensures, c.open_all-slaves.ensures.len) c.requires.end_places;
      },
    )
