use Rattle.std.proofs.Common.{◌≡◌, ℕ, ◌+◌, ◌%◌, List, ◌++◌, length, ap, sym, ◌∙◌, length-append}
use Rattle.std.proofs.lemmas.Result.{on_ok_weaker}
use Rattle.rmx_media.specs.declared.streams.MuxStream.{MuxStream}
use Rattle.ts_mux.specs.Cells.{cell_count}
use Rattle.ts_mux.specs.File.{is_first}
use Rattle.ts_mux.specs.TsMux.{list_of, past_of}
use Rattle.ts_mux.specs.Timed.{packet_of}
use Rattle.ts_mux.proofs.MuxLemmas.{first_passed, second_passed}
use Rattle.ts_mux.proofs.mux.TsMux.put_cells.Goals as goal

pub returns-then-is_first-clause-past : goal.returns-then-is_first-clause-past
returns-then-is_first-clause-past g c =
    let head : List ℕ = c.args.head.now in
    let left : List ℕ = c.args.bytes.now.current.now ++ g.P.Source.left c.args.bytes.now.pieces in
    let size : length (head ++ left) ≡ length head + c.args.size = length-append head left ∙ ap (λ k. length head + k) c.requires.size in
    on_ok_weaker c.write_cells.result
    (λ (e : c.write_cells.new.counter ≡ (c.args.self.now.first.cells + cell_count 176 (length head + c.args.size)) % 16).
    first_passed (list_of c.args.self.now) (packet_of c.args.timed.now) (past_of c.args.self.now) (head ++ left) (length head + c.args.size) c.write_cells.new.counter
    (ap (λ (s : List MuxStream). is_first s c.args.timed.now.packet.now.stream) (sym c.as_slice-streams.ensures) ∙ sym c.if-is_first.ensures) c.requires.pes size e)
    c.write_cells.ensures.counted

pub returns-clause-past : goal.returns-clause-past
returns-clause-past g c =
    let head : List ℕ = c.args.head.now in
    let left : List ℕ = c.args.bytes.now.current.now ++ g.P.Source.left c.args.bytes.now.pieces in
    let size : length (head ++ left) ≡ length head + c.args.size = length-append head left ∙ ap (λ k. length head + k) c.requires.size in
    on_ok_weaker c.write_cells-2.result
    (λ (e : c.write_cells-2.new.counter ≡ (c.args.self.now.second.cells + cell_count 184 (length head + c.args.size)) % 16).
    second_passed (list_of c.args.self.now) (packet_of c.args.timed.now) (past_of c.args.self.now) (head ++ left) (length head + c.args.size) c.write_cells-2.new.counter
    (ap (λ (s : List MuxStream). is_first s c.args.timed.now.packet.now.stream) (sym c.as_slice-streams.ensures) ∙ sym c.if-is_first.ensures) c.requires.pes size e)
    c.write_cells-2.ensures.counted
