use Rattle.std.proofs.Common.{refl, sym, ◌∙◌, ap, None}
use Rattle.lane.specs.Ends.{LaneSide}
use Rattle.tee.specs.Tracks.{Here, There}
use Rattle.tee.proofs.RunOpening.{brings_all, origin_of, placed_by, rides_first, seat_of}
use Rattle.tee.proofs.starting.open_there.Goals as goal

pub start-requires-clause-ring : goal.start-requires-clause-ring
start-requires-clause-ring g c κs within =
    let k = c.requires.ready.4 in
    k.taker_ring ∙ ap (λ (l : LaneSide). l.ring) (sym k.same)

pub start-requires-clause-unused : goal.start-requires-clause-unused
start-requires-clause-unused g c κs within =
    let k = c.requires.ready.4 in
    (k.untaken.got, k.untaken.numbers, k.untaken.failed, k.untaken.past)

pub start-requires-clause-fresh : goal.start-requires-clause-fresh
start-requires-clause-fresh g c κs within =
    let r = c.requires.ready in
    let s = r.2 in
    let d = r.3 in
    let k = r.4 in (
      origin_of g.S.Shelf.state c.args.shelf s d.streams,
      s.fifo,
      c.with_kit-job.ensures.fresh s.name s.format s.seg s.fifo d.streams d.prepared,
      rw k.about (brings_all g.S.Shelf.state c.args.shelf r.0 r.1 s c.args.draft c.args.kit d k),
    )

pub open_here-requires : goal.open_here-requires
open_here-requires g c =
    let r = c.requires.ready in
    let s = r.2 in
    let d = r.3 in
    record {
      fresh = (
        origin_of g.S.Shelf.state c.args.shelf s d.streams,
        s.fifo,
        rw c.in-Err.ensures.err.0 (c.with_kit-job.ensures.fresh s.name s.format s.seg s.fifo d.streams d.prepared),
      );
    }

pub returns-in-Ok-clause-open : goal.returns-in-Ok-clause-open
returns-in-Ok-clause-open g c = λ infos script s d k threaded. record {
  seat = seat_of s (origin_of g.S.Shelf.state c.args.shelf s d.streams);
  is_seat = record { slave = refl; shelf_is = refl; name = refl; format = refl; seg = refl; streams = d.are_chosen; script_is = d.script_is };
  track = There None;
  attends = (
    rides_first g.S.Shelf.state c.args.shelf infos script s c.args.draft c.args.kit d k _ threaded refl refl refl refl refl refl refl refl,
    record {
      fresh = rw c.in-Ok.ensures.ok.0 (c.with_kit-job.ensures.fresh s.name s.format s.seg s.fifo d.streams d.prepared);
      ring = rw c.in-Ok.ensures.ok.1 (k.taker_ring ∙ sym k.giver_ring);
      about = rw c.in-Ok.ensures.ok.1 k.about;
    },
    k.unused.closed,
  );
}

pub returns-in-Err-clause-open : goal.returns-in-Err-clause-open
returns-in-Err-clause-open g c = λ infos script s d k threaded.
    let g0 = origin_of g.S.Shelf.state c.args.shelf s d.streams in
    let keeps = c.open_here.ensures.keeps g0 s.fifo (rw c.in-Err.ensures.err.0 (c.with_kit-job.ensures.fresh s.name s.format s.seg s.fifo d.streams d.prepared)) in
    record {
      seat = seat_of s g0;
      is_seat = record { slave = refl; shelf_is = refl; name = refl; format = refl; seg = refl; streams = d.are_chosen; script_is = d.script_is };
      track = Here keeps.history;
      attends = (
        record {
          placed = rw c.open_here.ensures.same.0 (placed_by g.S.Shelf.state c.args.shelf infos script s c.args.draft d);
          keeps = keeps;
          history_is = refl;
          count = c.open_here.ensures.same.1;
        },
        sym threaded,
      );
    }
