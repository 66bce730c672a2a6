use Rattle.std.proofs.Common.{◌≡◌, ℕ, List, [], ◌∷◌, ◌++◌, ◌/◌, ◌%◌, ap, sym, ◌∙◌, true, false}
use Rattle.std.specs.Ordering.{int_eq}
use Rattle.ts_mux.specs.Pes.{time_field}
use Rattle.ts_mux.specs.Times.{time_value}
use Rattle.ts_mux.proofs.HeadLemmas.{same_time, other_time, one_time, two_times, three_put, field_is}
use Rattle.ts_mux.proofs.pes.head.Goals as goal

abbrev start_of : ℕ → ℕ → List ℕ
start_of id size = 0 ∷ 0 ∷ 1 ∷ id ∷ size / 256 ∷ size % 256 ∷ 0x80 ∷ []

pub returns-then-pts-dts-clause-items : goal.returns-then-pts-dts-clause-items
returns-then-pts-dts-clause-items c =
    let same : int_eq c.args.pts c.args.dts ≡ true = same_time c.args.pts c.args.dts c.ranges.pts c.ranges.dts c.if-pts-dts.true in
    let start : List ℕ = start_of c.args.id c.args.size in
    three_put c.new-head.result.items c.append.new.front.items c.append-then-pts-dts.new.front.items c.append-then-pts-dts-2.new.front.items start (0x80 ∷ 5 ∷ [])
    c.time_field.result c.new-head.ensures c.append.ensures.items c.append-then-pts-dts.ensures.items c.append-then-pts-dts-2.ensures.items
    ∙ ap (λ l. start ++ (0x80 ∷ 5 ∷ []) ++ l) (field_is 2 c.ticks.result c.args.pts c.time_field.result c.time_field.ensures c.ticks.ensures.value c.ranges.pts)
    ∙ sym (one_time c.args.id c.args.size c.args.pts c.args.dts same)

pub returns-clause-items : goal.returns-clause-items
returns-clause-items c =
    let other : int_eq c.args.pts c.args.dts ≡ false = other_time c.args.pts c.args.dts c.if-pts-dts.false in
    let start : List ℕ = start_of c.args.id c.args.size in
    c.append-4.ensures.items
    ∙ ap (λ l. l ++ c.time_field-3.result) (three_put c.new-head.result.items c.append.new.front.items c.append-2.new.front.items c.append-3.new.front.items start (0xC0 ∷ 10 ∷ [])
    c.time_field-2.result c.new-head.ensures c.append.ensures.items c.append-2.ensures.items c.append-3.ensures.items)
    ∙ ap (λ l. (start ++ (0xC0 ∷ 10 ∷ []) ++ l) ++ c.time_field-3.result) (field_is 3 c.ticks-2.result c.args.pts c.time_field-2.result c.time_field-2.ensures c.ticks-2.ensures.value c.ranges.pts)
    ∙ ap (λ l. (start ++ (0xC0 ∷ 10 ∷ []) ++ time_field 3 (time_value c.args.pts)) ++ l) (field_is 1 c.ticks-3.result c.args.dts c.time_field-3.result c.time_field-3.ensures c.ticks-3.ensures.value c.ranges.dts)
    ∙ sym (two_times c.args.id c.args.size c.args.pts c.args.dts other)
