use Rattle.std.proofs.Common.{rules, ◌++◌, ◌∷◌, [], subst, w64, SFits}
use Rattle.rmx_media.specs.declared.packet.Packet.{Packet}
use Rattle.rmx_edge.specs.Run.{Runs}
use Rattle.flv_mux.specs.Flv.{put_calls}
use Rattle.flv_mux.specs.FlvMux.{Shows}
use Rattle.flv_mux.proofs.Ends.{put_ends}
use Rattle.flv_mux.proofs.TimedLemmas.{own_times}
use Rattle.flv_mux.proofs.mux.FlvMux.put.Goals as goal

pub returns-clause-ends : goal.returns-clause-ends
returns-clause-ends g c = λ before. put_ends before c.args.p.now

pub returns-clause-shows : goal.returns-clause-shows
returns-clause-shows g c = λ before shows.
    let p : Packet = c.args.p.now in
    let dts : SFits w64 p.dts = search rules in
    let pts : SFits w64 p.pts = search rules in
    subst (λ (q : Packet). Shows c.put_at.new.self (before ++ q ∷ [])) (own_times p dts pts) (c.put_at.ensures.shows before shows)

pub returns-clause-run : goal.returns-clause-run
returns-clause-run g c = λ before shows.
    let p : Packet = c.args.p.now in
    let dts : SFits w64 p.dts = search rules in
    let pts : SFits w64 p.pts = search rules in
    subst (λ (q : Packet). Runs (put_calls before q) c.put_at.result (g.S.Shelf.state c.args.shelf.now) (g.S.Shelf.state c.put_at.new.shelf)) (own_times p dts pts) (c.put_at.ensures.run before shows)
