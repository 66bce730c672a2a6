use Rattle.std.proofs.Common.{◌≡◌, ℕ, ◌<◌, List, [], ◌∷◌, length, zero, suc, arith, get_or, drop, sym, ◌∙◌}
use Rattle.std.proofs.lemmas.Grind.{common_steps}
use Rattle.rmx_edge.specs.declared.fail_at.FailAt.{FailAt}
use Rattle.rmx_edge.specs.FailAt.{keep_of}
use Rattle.rmx_edge.proofs.fail_at.keep_at.Goals as goal

keep_of-first : (f : FailAt) (fs : List FailAt) (call : ℕ) → f.call ≡ call → keep_of (f ∷ fs) call ≡ f.keep
keep_of-first f fs call e = grind (arith, common_steps)

keep_of-found : (fs : List FailAt) (i : ℕ) (d : FailAt) (call : ℕ) → i < length fs → (get_or fs i d).call ≡ call → keep_of (drop i fs) call ≡ (get_or fs i d).keep
keep_of-found [] i d call h e = absurd (omega arith)
keep_of-found (x ∷ xs) zero d call h e = keep_of-first x xs call e
keep_of-found (x ∷ xs) (suc i) d call h e = keep_of-found xs i d call (omega arith) e

pub returns-then-fail-call : goal.returns-then-fail-call
returns-then-fail-call c = sym (keep_of-found c.args.fails.now c.loop-fail.fail-index _ c.args.call c.loop-fail-test.true c.if-fail-call.true) ∙ c.loop-fail.invariant
