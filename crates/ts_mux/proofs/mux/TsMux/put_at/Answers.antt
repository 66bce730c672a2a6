use Rattle.std.proofs.Common.{rules, List, [], ◌∷◌, ◌++◌, ap, sym, ◌∙◌, subst, w64, SFits}
use Rattle.std.specs.Prelude.{reverse}
use Rattle.std.proofs.lemmas.Result.{on_ok_weaker}
use Rattle.rmx_media.specs.declared.packet.Packet.{Packet}
use Rattle.rmx_media.specs.declared.packet.Format.TheVariants.{Mpegts}
use Rattle.rmx_media.specs.declared.streams.MuxStream.{MuxStream}
use Rattle.rmx_media.specs.declared.streams.MuxStreams.{MuxStreams}
use Rattle.rmx_media.specs.Fits.{FitsLowered}
use Rattle.rmx_edge.specs.Shelf.{ShelfCall}
use Rattle.rmx_edge.specs.Run.{Runs}
use Rattle.ts_mux.specs.Past.{Past, past_after, step, calls_at}
use Rattle.ts_mux.specs.Timed.{at_times}
use Rattle.ts_mux.specs.TsMux.{Shows, streams_of, list_of, past_of}
use Rattle.ts_mux.proofs.Steps.{step_is, calls_are}
use Rattle.ts_mux.proofs.EndLemmas.{put_ends}
use Rattle.ts_mux.proofs.TimedLemmas.{times_kept}
use Rattle.ts_mux.proofs.mux.TsMux.put_at.Goals as goal

pub put_packet-requires-clause-fits : goal.put_packet-requires-clause-fits
put_packet-requires-clause-fits g c =
    let dts : SFits w64 c.args.dts = search rules in
    let pts : SFits w64 c.args.pts = search rules in
    subst (λ (q : Packet). FitsLowered Mpegts (streams_of c.args.self.now) q) (sym (times_kept c.args.p.now c.args.dts c.args.pts dts pts)) c.requires.fits

pub returns-clause-run : goal.returns-clause-run
unfolding Shows
returns-clause-run g c = λ (before : List Packet) (h : Shows c.args.self.now before).
    let dts : SFits w64 c.args.dts = search rules in
    let pts : SFits w64 c.args.pts = search rules in
    let streams : List MuxStream = list_of c.args.self.now in
    let p : Packet = at_times c.args.dts c.args.pts c.args.p.now in
    let run = subst (λ (q : Packet). Runs (calls_at streams (past_of c.args.self.now) q) c.put_packet.result (g.S.Shelf.state c.args.shelf.now) (g.S.Shelf.state c.put_packet.new.shelf))
    (times_kept c.args.p.now c.args.dts c.args.pts dts pts) c.put_packet.ensures.run in
    subst (λ (calls : List ShelfCall). Runs calls c.put_packet.result (g.S.Shelf.state c.args.shelf.now) (g.S.Shelf.state c.put_packet.new.shelf))
    (sym (calls_are c.args.self.now.streams before p ∙ ap (λ (x : Past). calls_at streams x p) (sym h))) run

pub returns-clause-shows : goal.returns-clause-shows
unfolding Shows
returns-clause-shows g c =
    let dts : SFits w64 c.args.dts = search rules in
    let pts : SFits w64 c.args.pts = search rules in
    let streams : List MuxStream = list_of c.args.self.now in
    let p : Packet = at_times c.args.dts c.args.pts c.args.p.now in
    let kept = ap (λ (q : Packet). step streams (past_of c.args.self.now) q) (times_kept c.args.p.now c.args.dts c.args.pts dts pts) in
    on_ok_weaker c.put_packet.result
    (λ e (before : List Packet) (h : Shows c.args.self.now before).
    e ∙ kept ∙ ap (λ (x : Past). step streams x p) h ∙ sym (step_is streams before p)
    ∙ ap (λ (s : MuxStreams). past_after s.streams.items (reverse (before ++ p ∷ []))) (sym c.put_packet.ensures.streams))
    c.put_packet.ensures.past

pub returns-clause-ends : goal.returns-clause-ends
returns-clause-ends g c = λ (before : List Packet). put_ends c.args.self.now.streams before (at_times c.args.dts c.args.pts c.args.p.now)
