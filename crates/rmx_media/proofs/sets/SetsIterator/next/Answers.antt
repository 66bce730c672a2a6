use Rattle.std.proofs.Common.{◌≡◌, ℕ, suc, ◌+◌, ◌-◌, List, ◌∷◌, length, take, drop, true, arith, sym, ap, ◌∙◌, subst}
use Rattle.std.specs.Prelude.{is_some}
use Rattle.rmx_media.specs.Bits.{number_of}
use Rattle.rmx_media.specs.Avc.{sets_left, some_sets}
use Rattle.rmx_media.specs.Sets.{left_of}
use Rattle.rmx_media.proofs.SetsLemmas.{First, first}
use Rattle.rmx_media.proofs.sets.SetsIterator.next.Goals as goal

pub returns-clause-steps : goal.returns-clause-steps
returns-clause-steps c =
    let k : ℕ = c.turn.new.self.count - 1 in
    let e : c.turn.new.self.count ≡ suc k = omega arith in
    let f : First c.turn.new.self.last k c.turn.new.self.rest.now =
    first c.turn.new.self.last k c.turn.new.self.rest.now
    (subst (λ m. is_some (sets_left c.turn.new.self.last m c.turn.new.self.rest.now) ≡ true) e c.turn.new.self.whole) in
    sym c.turn.ensures.left
    ∙ ap (λ m. some_sets (sets_left c.turn.new.self.last m c.turn.new.self.rest.now)) e
    ∙ f.sets
    ∙ ap (λ (x : List ℕ). x ∷ some_sets (sets_left c.turn.new.self.last k (drop (2 + number_of (take 2 c.turn.new.self.rest.now)) c.turn.new.self.rest.now)))
    (sym c.front_set.ensures.set)
    ∙ ap (λ (r : List ℕ). c.front_set.result.0.now ∷ some_sets (sets_left c.turn.new.self.last k r)) (sym c.front_set.ensures.rest)

pub returns-clause-goes : goal.returns-clause-goes
returns-clause-goes c =
    let fewer : length (left_of c.args.self.now) ≡ _ = ap length (returns-clause-steps c) in
    record { on = λ h. (tt, h, omega arith); keeps = tt; rests = λ _. tt }
