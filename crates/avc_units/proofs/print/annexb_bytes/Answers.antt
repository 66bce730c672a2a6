use Rattle.std.proofs.Common.{◌≡◌, ℕ, List, sym, ◌∙◌, subst}
use Rattle.std.specs.Result.{IfOk}
use Rattle.avc_units.proofs.ListLemmas.{annexb_more, annexb_end}
use Rattle.avc_units.proofs.print.annexb_bytes.Goals as goal

pub loop-unit-preserved : goal.loop-unit-preserved
loop-unit-preserved c =
    annexb_more c.args.units.now c.loop-unit.out.items c.append.new.out.items c.append-in-loop-unit.new.out.items c.loop-unit.unit-index c.loop-unit-test.true
    c.in_ok-append.ensures c.in_ok-append-2.ensures
    ∙ c.loop-unit.invariant

pub returns : goal.returns
returns c =
    subst (λ (x : List ℕ). IfOk c.shared.result (λ bytes. bytes ≡ x))
    (sym (annexb_end c.args.units.now c.loop-unit.out.items c.loop-unit.unit-index c.loop-unit-test.false) ∙ c.loop-unit.invariant)
    c.shared.ensures
