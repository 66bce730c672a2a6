use Rattle.std.proofs.Common.{[], ◌∷◌, ◌++◌, sym, subst, Some}
use Rattle.rmx_media.specs.declared.packet.Format.{Format}
use Rattle.rmx_media.specs.declared.packet.Format.TheVariants.{Flv, Mpegts}
use Rattle.rmx_media.specs.declared.packet.Packet.{Packet}
use Rattle.rmx_media.specs.declared.streams.MuxStreams.{MuxStreams}
use Rattle.rmx_media.specs.Fits.{FitsLowered}
use Rattle.rmx_edge.specs.Pieces.{EndsInWrite}
use Rattle.rmx_edge.specs.Run.{Runs}
use Rattle.flv_mux.specs.Flv.{put_calls as flv_put_calls}
use Rattle.flv_mux.specs.FlvMux.{Shows as FlvShows, streams_of as flv_streams_of}
use Rattle.ts_mux.specs.File.{put_calls as ts_put_calls}
use Rattle.ts_mux.specs.TsMux.{Shows as TsShows, streams_of as ts_streams_of}
use Rattle.segmenter.specs.FileMux.{put_of}
use Rattle.segmenter.specs.Times.{lowered_by}
use Rattle.segmenter.proofs.NearLemmas.{lowered_is}
use Rattle.segmenter.proofs.NumberLemmas.{on_ok}
use Rattle.segmenter.proofs.file_mux.FileMux.put_lowered.Goals as goal

pub put_at-requires-clause-fits : goal.put_at-requires-clause-fits
put_at-requires-clause-fits g c =
    let p : Packet = c.args.p.now in
    let same = lowered_is c.requires.fits.0 c.requires.fits.1 p c.args.by c.ranges.by c.requires.fits.3 c.requires.fits.4 in
    let is = rw c.in-Flv.is at c.requires.fits.2 in
    subst (λ (q : Packet). FitsLowered Flv (flv_streams_of c.in-Flv.mux) q) (sym same)
    (subst (λ (streams : MuxStreams). FitsLowered Flv streams (lowered_by (Some c.args.by) p)) (sym is.1)
    (subst (λ (f : Format). FitsLowered f c.requires.fits.1 (lowered_by (Some c.args.by) p)) is.0 c.requires.fits.4))

pub returns-in-Flv-clause-run : goal.returns-in-Flv-clause-run
returns-in-Flv-clause-run g c = λ f streams before is stands.
    let p : Packet = c.args.p.now in
    let same = lowered_is c.requires.fits.0 c.requires.fits.1 p c.args.by c.ranges.by c.requires.fits.3 c.requires.fits.4 in
    let of = rw c.in-Flv.is at is in
    let run = subst (λ (q : Packet). Runs (flv_put_calls before q) c.put_at.result (g.S.Shelf.state c.args.shelf.now) (g.S.Shelf.state c.put_at.new.shelf)) same (c.put_at.ensures.run before (rw c.in-Flv.is at stands)) in
    subst (λ (h : Format). Runs (put_of h streams before (lowered_by (Some c.args.by) p)) c.put_at.result (g.S.Shelf.state c.args.shelf.now) (g.S.Shelf.state c.put_at.new.shelf)) (sym of.0) run

pub returns-in-Flv-clause-ends : goal.returns-in-Flv-clause-ends
returns-in-Flv-clause-ends g c = λ f streams before is.
    let p : Packet = c.args.p.now in
    let same = lowered_is c.requires.fits.0 c.requires.fits.1 p c.args.by c.ranges.by c.requires.fits.3 c.requires.fits.4 in
    let of = rw c.in-Flv.is at is in
    let ends = subst (λ (q : Packet). EndsInWrite (flv_put_calls before q)) same (c.put_at.ensures.ends before) in
    subst (λ (h : Format). EndsInWrite (put_of h streams before (lowered_by (Some c.args.by) p))) (sym of.0) ends

pub returns-in-Flv-clause-after : goal.returns-in-Flv-clause-after
returns-in-Flv-clause-after g c = λ before stands ok.
    let p : Packet = c.args.p.now in
    let same = lowered_is c.requires.fits.0 c.requires.fits.1 p c.args.by c.ranges.by c.requires.fits.3 c.requires.fits.4 in
    subst (λ (q : Packet). FlvShows c.put_at.new.self (before ++ q ∷ [])) same (c.put_at.ensures.shows before (rw c.in-Flv.is at stands))

pub put_at-requires-in-Mpegts-clause-fits : goal.put_at-requires-in-Mpegts-clause-fits
put_at-requires-in-Mpegts-clause-fits g c =
    let p : Packet = c.args.p.now in
    let same = lowered_is c.requires.fits.0 c.requires.fits.1 p c.args.by c.ranges.by c.requires.fits.3 c.requires.fits.4 in
    let is = rw c.in-Mpegts.is at c.requires.fits.2 in
    subst (λ (q : Packet). FitsLowered Mpegts (ts_streams_of c.in-Mpegts.mux) q) (sym same)
    (subst (λ (streams : MuxStreams). FitsLowered Mpegts streams (lowered_by (Some c.args.by) p)) (sym is.1)
    (subst (λ (f : Format). FitsLowered f c.requires.fits.1 (lowered_by (Some c.args.by) p)) is.0 c.requires.fits.4))

pub returns-in-Mpegts-clause-run : goal.returns-in-Mpegts-clause-run
returns-in-Mpegts-clause-run g c = λ f streams before is stands.
    let p : Packet = c.args.p.now in
    let same = lowered_is c.requires.fits.0 c.requires.fits.1 p c.args.by c.ranges.by c.requires.fits.3 c.requires.fits.4 in
    let of = rw c.in-Mpegts.is at is in
    let run = subst (λ (q : Packet). Runs (ts_put_calls (ts_streams_of c.in-Mpegts.mux) before q) c.put_at-in-Mpegts.result (g.S.Shelf.state c.args.shelf.now) (g.S.Shelf.state c.put_at-in-Mpegts.new.shelf)) same (c.put_at-in-Mpegts.ensures.run before (rw c.in-Mpegts.is at stands)) in
    subst (λ (h : Format). Runs (put_of h streams before (lowered_by (Some c.args.by) p)) c.put_at-in-Mpegts.result (g.S.Shelf.state c.args.shelf.now) (g.S.Shelf.state c.put_at-in-Mpegts.new.shelf)) (sym of.0)
    (subst (λ (m : MuxStreams). Runs (ts_put_calls m before (lowered_by (Some c.args.by) p)) c.put_at-in-Mpegts.result (g.S.Shelf.state c.args.shelf.now) (g.S.Shelf.state c.put_at-in-Mpegts.new.shelf)) of.1 run)

pub returns-in-Mpegts-clause-ends : goal.returns-in-Mpegts-clause-ends
returns-in-Mpegts-clause-ends g c = λ f streams before is.
    let p : Packet = c.args.p.now in
    let same = lowered_is c.requires.fits.0 c.requires.fits.1 p c.args.by c.ranges.by c.requires.fits.3 c.requires.fits.4 in
    let of = rw c.in-Mpegts.is at is in
    let ends = subst (λ (q : Packet). EndsInWrite (ts_put_calls (ts_streams_of c.in-Mpegts.mux) before q)) same (c.put_at-in-Mpegts.ensures.ends before) in
    subst (λ (h : Format). EndsInWrite (put_of h streams before (lowered_by (Some c.args.by) p))) (sym of.0)
    (subst (λ (m : MuxStreams). EndsInWrite (ts_put_calls m before (lowered_by (Some c.args.by) p))) of.1 ends)

pub returns-in-Mpegts-clause-after : goal.returns-in-Mpegts-clause-after
returns-in-Mpegts-clause-after g c = λ before stands ok.
    let p : Packet = c.args.p.now in
    let same = lowered_is c.requires.fits.0 c.requires.fits.1 p c.args.by c.ranges.by c.requires.fits.3 c.requires.fits.4 in
    subst (λ (q : Packet). TsShows c.put_at-in-Mpegts.new.self (before ++ q ∷ [])) same (on_ok c.put_at-in-Mpegts.result c.put_at-in-Mpegts.ensures.shows ok before (rw c.in-Mpegts.is at stands))
