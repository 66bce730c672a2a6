use Rattle.std.proofs.Common.{◌<◌, length, take, subst, sym, arith, List, lit<, ◌+◌}
use Rattle.std.specs.List.{AllZip}
use Rattle.tee.specs.declared.filter.Filtered.{Filtered}
use Rattle.tee.proofs.Slots.{IsFor, all_filtered, zip_all, zip_next, zip_take}
use Rattle.tee.proofs.feeding.filter_all.Goals as goal

pub push-requires : goal.push-requires
push-requires g c =
    let at = c.loop-slave in
    let len = zip_take (IsFor c.args.p.now) c.args.slaves.now at.filtered.items at.slave-index (omega arith) at.invariant in
    let fits : length at.filtered.items < 16 = omega arith in
    (lit< tt, fits)

pub loop-slave-preserved : goal.loop-slave-preserved
loop-slave-preserved g c =
    let at = c.loop-slave in
    subst (λ (fs : List Filtered). AllZip (IsFor c.args.p.now) (take (at.slave-index + 1) c.args.slaves.now) fs) (sym c.push.ensures.items)
    (zip_next (IsFor c.args.p.now) c.args.slaves.now at.filtered.items at.slave-index c.slave-item.result c.in_ok-filter.field-0 (omega arith) c.slave-item.is at.invariant
    (λ infos seat are placed i. c.in_ok-filter.ensures infos seat are placed i))

pub returns : goal.returns
returns g c = λ infos given seats histories are a i.
    let at = c.loop-slave in
    all_filtered g.S.Shelf.state infos given c.args.p.now seats histories c.args.slaves.now at.filtered.items are i a
    (zip_all (IsFor c.args.p.now) c.args.slaves.now at.filtered.items at.slave-index (omega arith) at.invariant)
