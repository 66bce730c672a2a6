use Rattle.std.proofs.Common.{rules, List, [], ◌∷◌, ◌++◌, sym, subst, w64, SFits}
use Rattle.std.proofs.lemmas.Result.{on_ok_weaker}
use Rattle.rmx_media.specs.declared.packet.Packet.{Packet}
use Rattle.rmx_media.specs.declared.packet.Format.TheVariants.{Mpegts}
use Rattle.rmx_media.specs.Fits.{FitsLowered}
use Rattle.rmx_edge.specs.Run.{Runs}
use Rattle.ts_mux.specs.File.{put_calls}
use Rattle.ts_mux.specs.TsMux.{Shows, streams_of}
use Rattle.ts_mux.proofs.EndLemmas.{put_ends}
use Rattle.ts_mux.proofs.TimedLemmas.{own_times}
use Rattle.ts_mux.proofs.mux.TsMux.put.Goals as goal

pub put_at-requires-clause-fits : goal.put_at-requires-clause-fits
put_at-requires-clause-fits g c =
    let p : Packet = c.args.p.now in
    let dts : SFits w64 p.dts = search rules in
    let pts : SFits w64 p.pts = search rules in
    subst (λ (q : Packet). FitsLowered Mpegts (streams_of c.args.self.now) q) (sym (own_times p dts pts)) c.requires.fits

pub returns-clause-run : goal.returns-clause-run
returns-clause-run g c = λ (before : List Packet) (h : Shows c.args.self.now before).
    let p : Packet = c.args.p.now in
    let dts : SFits w64 p.dts = search rules in
    let pts : SFits w64 p.pts = search rules in
    subst (λ (q : Packet). Runs (put_calls (streams_of c.args.self.now) before q) c.put_at.result (g.S.Shelf.state c.args.shelf.now) (g.S.Shelf.state c.put_at.new.shelf))
    (own_times p dts pts) (c.put_at.ensures.run before h)

pub returns-clause-shows : goal.returns-clause-shows
returns-clause-shows g c =
    let p : Packet = c.args.p.now in
    let dts : SFits w64 p.dts = search rules in
    let pts : SFits w64 p.pts = search rules in
    on_ok_weaker c.put_at.result
    (λ shows (before : List Packet) (h : Shows c.args.self.now before).
    subst (λ (q : Packet). Shows c.put_at.new.self (before ++ q ∷ [])) (own_times p dts pts) (shows before h))
    c.put_at.ensures.shows

pub returns-clause-ends : goal.returns-clause-ends
returns-clause-ends g c = λ (before : List Packet). put_ends c.args.self.now.streams before c.args.p.now
