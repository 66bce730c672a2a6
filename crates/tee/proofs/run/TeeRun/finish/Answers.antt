use Rattle.std.proofs.Common.{length, sym, ◌∙◌, ap}
use Rattle.tee.specs.RunKeeps.{inlined}
use Rattle.tee.proofs.Closing.{all_as, ends_short, inline_count, one_fails}
use Rattle.tee.proofs.RunFed.{threads_at}
use Rattle.tee.proofs.run.TeeRun.finish.Goals as goal

pub close_all-requires : goal.close_all-requires
close_all-requires g c =
    let r = c.requires.kept in
    let st = r.2.stands in
    record { ready = (c.args.self.infos.items, r.1, length r.1, r.0, st.tracks, st.attend) }

pub finish_each-ends-requires : goal.finish_each-ends-requires
finish_each-ends-requires g c =
    let r = c.requires.kept in
    let st = r.2.stands in
    record {
      attend = (c.args.self.infos.items, r.1, r.0, st.tracks, c.close_all.ensures.attend c.args.self.infos.items r.1 (length r.1) r.0 st.tracks st.attend);
      none = r.2.none_ended;
      room = rw c.close_all.ensures.len r.2.room;
    }

pub returns-clause-ends : goal.returns-clause-ends
returns-clause-ends g c = λ seats given k.
    let st = k.stands in
    (ends_short g.S.Shelf.state c.args.self seats given c.finish_each-ends.result.0.items c.finish_each-ends.result.1 k
    (c.finish_each-ends.ensures.ends c.args.self.infos.items given seats st.tracks (c.close_all.ensures.attend c.args.self.infos.items given (length given) seats st.tracks st.attend))).0

pub returns-clause-unentered : goal.returns-clause-unentered
returns-clause-unentered g c = λ seats given k.
    let st = k.stands in
    ends_short g.S.Shelf.state c.args.self seats given c.finish_each-ends.result.0.items c.finish_each-ends.result.1 k
    (c.finish_each-ends.ensures.ends c.args.self.infos.items given seats st.tracks (c.close_all.ensures.attend c.args.self.infos.items given (length given) seats st.tracks st.attend))

pub returns-clause-failed : goal.returns-clause-failed
returns-clause-failed g c = λ u dead seats given k want.
    let st = k.stands in
    one_fails g.S.Shelf.state c.args.self seats given c.finish_each-ends.result.0.items u k
    (all_as g.S.Shelf.state given seats st.tracks c.finish_each-ends.result.0.items c.finish_each-ends.result.1
    (c.finish_each-ends.ensures.ends c.args.self.infos.items given seats st.tracks (c.close_all.ensures.attend c.args.self.infos.items given (length given) seats st.tracks st.attend))) dead want

pub returns-clause-inline : goal.returns-clause-inline
returns-clause-inline g c = λ seats given k.
    let st = k.stands in
    inline_count g.S.Shelf.state given seats st.tracks c.finish_each-ends.result.0.items
    (all_as g.S.Shelf.state given seats st.tracks c.finish_each-ends.result.0.items c.finish_each-ends.result.1
    (c.finish_each-ends.ensures.ends c.args.self.infos.items given seats st.tracks (c.close_all.ensures.attend c.args.self.infos.items given (length given) seats st.tracks st.attend)))
    ∙ sym (ap (inlined seats) (threads_at g.S.Shelf.state c.args.self.infos.items given (length given) seats st.tracks c.args.self.outlets.items st.attend))
