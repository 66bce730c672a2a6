use Rattle.std.proofs.Common.{List, ℕ, arith, subst, Err}
use Rattle.rmx_edge.specs.Pieces.{writes}
use Rattle.rmx_edge.specs.Run.{Runs}
use Rattle.rmx_edge.proofs.Writing.{pieces_then, pieces_stopped}
use Rattle.flv_mux.specs.Flv.{stream_pieces}
use Rattle.flv_mux.proofs.Pair.{two_streams}
use Rattle.flv_mux.proofs.head.write_configs.Goals as goal

pub returns-in-Ok-clause-run : goal.returns-in-Ok-clause-run
returns-in-Ok-clause-run g c =
    let v = c.video-item.result in
    let a = c.audio-item.result in
    let pieces = two_streams c.args.streams.now v a (omega arith) (omega arith) c.video-item.is c.audio-item.is in
    subst (λ (ps : List (List ℕ)). Runs (writes ps) c.write_config-in-Ok.result (g.S.Shelf.state c.args.shelf.now) (g.S.Shelf.state c.write_config-in-Ok.new.shelf)) pieces
    (pieces_then (stream_pieces v) (stream_pieces a) c.in-Ok.ensures.run c.write_config-in-Ok.ensures.run)

pub returns-in-Err-clause-run : goal.returns-in-Err-clause-run
returns-in-Err-clause-run g c =
    let v = c.video-item.result in
    let a = c.audio-item.result in
    let pieces = two_streams c.args.streams.now v a (omega arith) (omega arith) c.video-item.is c.audio-item.is in
    subst (λ (ps : List (List ℕ)). Runs {T = Unit {0}} (writes ps) (Err c.in-Err.fault) (g.S.Shelf.state c.args.shelf.now) (g.S.Shelf.state c.write_config-in-len2.new.shelf)) pieces
    (pieces_stopped (stream_pieces v) (stream_pieces a) c.in-Err.ensures.run)
