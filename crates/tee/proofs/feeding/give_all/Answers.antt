use Rattle.std.proofs.Common.{add-one, arith, ◌<◌}
use Rattle.tee.proofs.Slots.{all_done, as_many, next_here, offset_fits, set_here}
use Rattle.tee.proofs.feeding.give_all.Goals as goal

pub bounds-filtered-place : goal.bounds-filtered-place
bounds-filtered-place g c =
    let r = c.requires.ready in
    let many = as_many g.S.Shelf.state r.0 r.1 c.args.p.now r.2 r.3 c.args.slaves.now c.args.filtered.now r.4 r.5 in
    omega arith

pub offset_bounds-filtered-place : goal.offset_bounds-filtered-place
offset_bounds-filtered-place g c =
    let few = c.requires.few in
    let below : c.loop-place.place < 16 = omega arith in
    offset_fits c.loop-place.place below

pub give-requires : goal.give-requires
give-requires g c =
    let r = c.requires.ready in
    let at = c.loop-place in
    let n = next_here g.S.Shelf.state r.0 r.1 c.args.p.now r.2 r.3 at.slaves c.args.filtered.now at.place c.index-slaves-place.result c.index-filtered-place.result
    (at.invariant r.0 r.1 r.2 r.3 r.4 r.5) r.5 (omega arith) c.index-filtered-place.is in
    record { ready = (r.0, r.1, n.0, n.1, n.2, n.3, r.6) }

pub loop-place-preserved : goal.loop-place-preserved
loop-place-preserved g c = λ infos given seats histories a f.
    let at = c.loop-place in
    rw add-one (set_here g.S.Shelf.state infos given c.args.p.now seats histories at.slaves c.args.filtered.now at.place c.index-slaves-place.result c.give.new.self c.index-filtered-place.result
    (at.invariant infos given seats histories a f) f (omega arith) c.index-filtered-place.is (λ s h sits left. c.give.ensures infos given s h sits left))

pub returns : goal.returns
returns g c = λ infos given seats histories a f.
    let at = c.loop-place in
    all_done g.S.Shelf.state infos given c.args.p.now seats histories at.slaves at.place (at.invariant infos given seats histories a f) (omega arith)
