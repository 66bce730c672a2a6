use Rattle.std.proofs.Common.{rules, ◌++◌, List, ℕ, ℤ, Bool, sym, subst, Ok, Err}
use Rattle.std.specs.Prelude.{if◌then◌else◌}
use Rattle.std.specs.Int.{w64}
use Rattle.std.proofs.lemmas.Int.{to_z-of_z}
use mir.Val.{SFits}
use Rattle.rmx_edge.specs.Pieces.{writes}
use Rattle.rmx_edge.specs.Run.{Runs}
use Rattle.rmx_edge.proofs.Writing.{pieces_then, pieces_stopped}
use Rattle.flv_mux.specs.Flv.{config_pieces, media_pieces}
use Rattle.flv_mux.specs.Timed.{packet_of}
use Rattle.flv_mux.proofs.packet.write_packet.Goals as goal

pub returns-in-Ok-clause-run : goal.returns-in-Ok-clause-run
returns-in-Ok-clause-run g c =
    let p = packet_of c.args.p.now in
    let fits : SFits w64 p.dts = search rules in
    let start = g.S.Shelf.state c.args.shelf.now in
    let media : List (List ℕ) = media_pieces p in
    let first = subst (λ (t : ℤ). Runs (writes (config_pieces t p.config)) (Ok c.in-Ok.field-0) start (g.S.Shelf.state c.write_config.new.shelf)) (to_z-of_z w64 p.dts fits) c.in-Ok.ensures.run in
    subst (λ (b : Bool). Runs (writes (if b then config_pieces p.dts p.config ++ media else media)) c.write_media.result start (g.S.Shelf.state c.write_media.new.shelf)) (sym c.if-changed.true)
    (pieces_then (config_pieces p.dts p.config) media first c.write_media.ensures.run)

pub returns-in-Err-clause-run : goal.returns-in-Err-clause-run
returns-in-Err-clause-run g c =
    let p = packet_of c.args.p.now in
    let fits : SFits w64 p.dts = search rules in
    let start = g.S.Shelf.state c.args.shelf.now in
    let end = g.S.Shelf.state c.write_config.new.shelf in
    let media : List (List ℕ) = media_pieces p in
    let first = subst (λ (t : ℤ). Runs {T = Unit {0}} (writes (config_pieces t p.config)) (Err c.in-Err.fault) start end) (to_z-of_z w64 p.dts fits) c.in-Err.ensures.run in
    subst (λ (b : Bool). Runs {T = Unit {0}} (writes (if b then config_pieces p.dts p.config ++ media else media)) (Err c.in-Err.fault) start end) (sym c.if-changed.true)
    (pieces_stopped (config_pieces p.dts p.config) media first)
