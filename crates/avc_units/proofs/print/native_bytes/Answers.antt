use Rattle.std.proofs.Common.{◌≡◌, ℕ, List, sym, ◌∙◌, subst}
use Rattle.std.specs.Result.{IfOk}
use Rattle.avc_units.proofs.ListLemmas.{native_more, native_end, short_first}
use Rattle.avc_units.proofs.print.native_bytes.Goals as goal

pub append_sized-requires-clause-short : goal.append_sized-requires-clause-short
append_sized-requires-clause-short c =
    (short_first c.args.length_size c.args.units.now c.loop-unit.unit-index c.loop-unit-test.true c.loop-unit.invariant.short).0

pub loop-unit-preserved : goal.loop-unit-preserved
loop-unit-preserved c = record {
  spelled =
      native_more c.args.length_size c.args.units.now c.loop-unit.out.items c.append_sized.new.out.items c.loop-unit.unit-index c.loop-unit-test.true
      c.in_ok-append_sized.ensures
      ∙ c.loop-unit.invariant.spelled;
  short = (short_first c.args.length_size c.args.units.now c.loop-unit.unit-index c.loop-unit-test.true c.loop-unit.invariant.short).1;
}

pub returns : goal.returns
returns c =
    subst (λ (x : List ℕ). IfOk c.shared.result (λ bytes. bytes ≡ x))
    (sym (native_end c.args.length_size c.args.units.now c.loop-unit.out.items c.loop-unit.unit-index c.loop-unit-test.false) ∙ c.loop-unit.invariant.spelled)
    c.shared.ensures
