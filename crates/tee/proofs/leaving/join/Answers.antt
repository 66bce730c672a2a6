use Rattle.std.proofs.Common.{refl, sym, ap, ◌∙◌}
use Rattle.lane.specs.Ends.{LaneSide}
use Rattle.slave.specs.End.{end_view}
use Rattle.tee.proofs.Joined.{ends_there}
use Rattle.tee.proofs.leaving.join.Goals as goal

pub settle-counts-requires-clause-taker : goal.settle-counts-requires-clause-taker
settle-counts-requires-clause-taker g c =
    let r = c.requires.ready in
    c.join-end.ensures.ring ∙ r.5.ring ∙ c.args.sender.ours ∙ ap (λ (l : LaneSide). l.ring) (sym c.deref.ensures)

pub returns-clause-ends : goal.returns-clause-ends
returns-clause-ends g c = λ infos given seat told r st.
    ends_there g.S.Shelf.state infos given seat told c.args.sender c.args.running c.join-end.result c.settle-counts.result (end_view g.S.Shelf.state c.with_refusals.result.0) c.with_refusals.result.1 r st c.join-end.ensures
    (record { whole = c.settle-counts.ensures.whole; blocks = c.settle-counts.ensures.blocks; saw = c.settle-counts.ensures.numbers; told = c.settle-counts.ensures.told; counts_are = c.settle-counts.ensures.counts })
    c.with_refusals.ensures.adds c.with_refusals.ensures.accounts

pub returns-clause-short : goal.returns-clause-short
returns-clause-short g c = λ short. c.with_refusals.ensures.adds.state ∙ rw short refl
