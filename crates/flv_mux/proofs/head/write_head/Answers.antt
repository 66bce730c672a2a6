use Rattle.std.proofs.Common.{List, ℕ, ◌∷◌, ◌++◌, ap, ◌∙◌, subst, Err}
use Rattle.std.specs.Prelude.{flat_map}
use Rattle.rmx_media.specs.declared.streams.MuxStream.{MuxStream}
use Rattle.flv_tags.specs.Written.{file_head_bytes}
use Rattle.rmx_edge.specs.Pieces.{writes}
use Rattle.rmx_edge.specs.Run.{Runs}
use Rattle.rmx_edge.proofs.Writing.{piece_then, piece_stopped, pieces_then, pieces_stopped}
use Rattle.flv_mux.specs.Flv.{flags_of, script_pieces, stream_pieces}
use Rattle.flv_mux.proofs.head.write_head.Goals as goal

pub returns-in-Err-clause-run : goal.returns-in-Err-clause-run
returns-in-Err-clause-run g c =
    let head = c.file_head.ensures ∙ ap file_head_bytes (c.flags.ensures ∙ ap flags_of c.as_slice-streams.ensures) in
    let rest : List (List ℕ) = script_pieces c.args.m.now.script ++ flat_map stream_pieces c.args.m.now.streams.items in
    let all = piece_stopped c.file_head.result rest c.in-Err.ensures.run in
    subst (λ (h : List ℕ). Runs {T = Unit {0}} (writes (h ∷ rest)) (Err c.in-Err.fault) (g.S.Shelf.state c.args.shelf.now) (g.S.Shelf.state c.write_piece.new.shelf)) head all

pub returns-in-Ok-write_script-clause-run : goal.returns-in-Ok-write_script-clause-run
returns-in-Ok-write_script-clause-run g c =
    let head = c.file_head.ensures ∙ ap file_head_bytes (c.flags.ensures ∙ ap flags_of c.as_slice-streams.ensures) in
    let script : List (List ℕ) = script_pieces c.args.m.now.script in
    let all =
    piece_then c.file_head.result (script ++ flat_map stream_pieces c.as_slice-streams.result.now) c.in-Ok.ensures.run
    (pieces_then script (flat_map stream_pieces c.as_slice-streams.result.now) c.in-Ok-write_script.ensures.run c.write_configs.ensures.run) in
    let pieces =
    ap (λ (h : List ℕ). h ∷ (script ++ flat_map stream_pieces c.as_slice-streams.result.now)) head
    ∙ ap (λ (ss : List MuxStream). file_head_bytes (flags_of c.args.m.now.streams.items) ∷ (script ++ flat_map stream_pieces ss)) c.as_slice-streams.ensures in
    subst (λ (ps : List (List ℕ)). Runs (writes ps) c.write_configs.result (g.S.Shelf.state c.args.shelf.now) (g.S.Shelf.state c.write_configs.new.shelf)) pieces all

pub returns-in-Err-write_script-clause-run : goal.returns-in-Err-write_script-clause-run
returns-in-Err-write_script-clause-run g c =
    let head = c.file_head.ensures ∙ ap file_head_bytes (c.flags.ensures ∙ ap flags_of c.as_slice-streams.ensures) in
    let script : List (List ℕ) = script_pieces c.args.m.now.script in
    let rest : List (List ℕ) = flat_map stream_pieces c.args.m.now.streams.items in
    let all = piece_then c.file_head.result (script ++ rest) c.in-Ok.ensures.run (pieces_stopped script rest c.in-Err-write_script.ensures.run) in
    subst (λ (h : List ℕ). Runs {T = Unit {0}} (writes (h ∷ (script ++ rest))) (Err c.in-Err-write_script.fault) (g.S.Shelf.state c.args.shelf.now) (g.S.Shelf.state c.write_script.new.shelf)) head all
