use Rattle.std.proofs.Common.{◌≡◌, ℕ, ◌%◌, ◌==◌, List, [], ◌++◌, ap, sym, ◌∙◌, if◌then◌else◌, append_assoc}
use Rattle.std.specs.Prelude.{slice_index}
use Rattle.ts_mux.specs.Pes.{video_head, delimiter}
use Rattle.ts_mux.proofs.FrontPartLemmas.{head_bits, delimited_is}
use Rattle.ts_mux.proofs.fronts.video_front.Goals as goal

pub returns-clause-items : goal.returns-clause-items
returns-clause-items c = λ (rest : List ℕ).
    let start : List ℕ = c.args.start.now in
    let head : List ℕ = video_head c.args.pts c.args.dts in
    let mark : List ℕ = if slice_index start 4 % 32 == 9 then [] else delimiter in
    let items : c.append.new.front.items ≡ (head ++ mark) ++ start =
    c.append.ensures.items
    ∙ ap (λ l. l ++ start) (c.add_delimiter.ensures.items ∙ ap (λ l. l ++ mark) (c.head-front.ensures.items ∙ head_bits 0xE0 0 c.args.pts c.args.dts c.requires.pts c.requires.dts)) in
    ap (λ l. l ++ rest) items
    ∙ append_assoc (head ++ mark) start rest
    ∙ append_assoc head mark (start ++ rest)
    ∙ ap (λ l. head ++ l) (sym (delimited_is start rest c.requires.start))
