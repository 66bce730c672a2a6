use Rattle.std.proofs.Common.{rules, ◌≡◌, ◌++◌, ◌∷◌, [], Bool, true, false, List, ℕ, ◌∙◌, ap, subst, refl, w64, SFits}
use Rattle.std.specs.Prelude.{not, ◌==◌, if◌then◌else◌}
use Rattle.rmx_media.specs.declared.packet.Packet.{Packet}
use Rattle.rmx_edge.specs.Pieces.{writes}
use Rattle.rmx_edge.specs.Run.{Runs}
use Rattle.flv_mux.specs.Flv.{config_pieces, media_pieces, version_in}
use Rattle.flv_mux.specs.FlvMux.{Shows}
use Rattle.flv_mux.specs.Timed.{at_times}
use Rattle.flv_mux.proofs.Ends.{put_ends}
use Rattle.flv_mux.proofs.TimedLemmas.{times_kept}
use Rattle.flv_mux.proofs.mux.FlvMux.put_at.Goals as goal

if_not : (b : Bool) (xs ys : List (List ℕ)) → (if not b then xs else ys) ≡ (if b then ys else xs)
if_not true xs ys = refl
if_not false xs ys = refl

pub returns-clause-ends : goal.returns-clause-ends
returns-clause-ends g c = λ before. put_ends before (at_times c.args.dts c.args.pts c.args.p.now)

pub returns-clause-shows : goal.returns-clause-shows
returns-clause-shows g c = λ before shows.
    let dts : SFits w64 c.args.dts = search rules in
    let pts : SFits w64 c.args.pts = search rules in
    subst (λ (q : Packet). Shows c.pass.new.self (before ++ q ∷ [])) (times_kept c.args.p.now c.args.dts c.args.pts dts pts) (c.pass.ensures.shows before shows)

pub returns-clause-run : goal.returns-clause-run
returns-clause-run g c = λ before shows.
    let dts : SFits w64 c.args.dts = search rules in
    let pts : SFits w64 c.args.pts = search rules in
    let p : Packet = at_times c.args.dts c.args.pts c.args.p.now in
    let run =
    subst (λ (q : Packet). Runs (writes (if c.is_changed-changed.result then config_pieces q.dts q.config ++ media_pieces q else media_pieces q)) c.write_packet.result (g.S.Shelf.state c.args.shelf.now) (g.S.Shelf.state c.write_packet.new.shelf))
    (times_kept c.args.p.now c.args.dts c.args.pts dts pts) c.write_packet.ensures.run in
    let media : List (List ℕ) = media_pieces p in
    let both : List (List ℕ) = config_pieces p.dts p.config ++ media in
    let pieces =
    ap (λ (b : Bool). if b then both else media) (c.is_changed-changed.ensures before shows)
    ∙ if_not (p.version == version_in p.stream before) both media in
    subst (λ (ps : List (List ℕ)). Runs (writes ps) c.write_packet.result (g.S.Shelf.state c.args.shelf.now) (g.S.Shelf.state c.write_packet.new.shelf)) pieces run
