-- The outputs of a text, one after the other.
use Rattle.std.proofs.Common.{◌≡◌, ◌≤◌, ℕ, List, [], ◌∷◌, ◌++◌, length, cond, Result, Ok, Err, sym, ◌∙◌, ap, subst, map, arith}
use Rattle.std.specs.Prelude.{◌==◌}
use Rattle.std.proofs.lemmas.List.{map-append}
use Rattle.options.specs.declared.escape.Place.TheVariants.{Bare}
use Rattle.options.specs.declared.fault.WordKind.{WordKind}
use Rattle.options.specs.declared.fault.WordKind.TheVariants.{TooManySlaves, SameTarget}
use Rattle.options.specs.declared.fault.ReadError.{ReadError}
use Rattle.options.specs.declared.slave.SlavePlan.{SlavePlan}
use Rattle.options.specs.Read.{◌>>=◌, Fails}
use Rattle.options.specs.Repeat.{More, Last}
use Rattle.options.specs.Slave.{Slave, view, plan_slave}
use Rattle.options.specs.Tee.{clashes, next_slave, with_slave, slave_part, slaves_behind}
use Rattle.options.proofs.Binds.{bind_is, bind_fails}
use Rattle.options.proofs.Shorter.{Leaves, leaves_cond, piece_leaves, Shortens}
use Rattle.options.proofs.Parts.{Shrinks, more_parts, last_part, bad_part}

slave_leaves : (n : ℕ) (before : List Slave) (rest : List ℕ) (r : Result Slave WordKind) → length rest ≤ n → Leaves n (r >>= λ s. cond (clashes before s) (Err SameTarget) (Ok (s, rest)))
slave_leaves n before rest (Ok s) p = leaves_cond n (clashes before s) (Err SameTarget) (Ok (s, rest)) tt p
slave_leaves n before rest (Err e) p = tt

piece_then : (n : ℕ) (before : List Slave) (r : Result (List ℕ × List ℕ) WordKind) → Leaves n r → Leaves n (r >>= λ p. plan_slave p.0 >>= λ s. cond (clashes before s) (Err SameTarget) (Ok (s, p.1)))
piece_then n before (Ok p) h = slave_leaves n before p.1 (plan_slave p.0) h
piece_then n before (Err e) h = tt

next_leaves : (before : List Slave) (text : List ℕ) → Leaves (length text) (next_slave before text)
unfolding next_slave
next_leaves before text = leaves_cond _ (length before == 16) (Err TooManySlaves) _ tt (piece_then _ before _ (piece_leaves (124 ∷ []) Bare text))

turn_shortens : (n : ℕ) (before : List Slave) (s : Slave) (rest : List ℕ) → length rest ≤ n → Shortens n (Ok (with_slave before s rest))
turn_shortens n before s [] p = tt
turn_shortens n before s (c ∷ cs) p = omega arith

turned_shortens : (n : ℕ) (before : List Slave) (r : Result (Slave × List ℕ) WordKind) → Leaves n r → Shortens n (r >>= λ x. Ok (with_slave before x.0 x.1))
turned_shortens n before (Ok x) h = turn_shortens n before x.0 x.1 h
turned_shortens n before (Err e) h = tt

pub slaves_shrink : Shrinks slave_part
slaves_shrink = record { shorter = λ before text. turned_shortens _ before (next_slave before text) (next_leaves before text) }

-- what the code's measure needs
pub next_shorter : (before : List Slave) (text : List ℕ) (x : Slave × List ℕ) → next_slave before text ≡ Ok x → length x.1 ≤ length text
next_shorter before text x e = subst (λ (r : Result (Slave × List ℕ) WordKind). Leaves (length text) r) e (next_leaves before text)

pushed : (old new : List SlavePlan) (plan : SlavePlan) → new ≡ old ++ plan ∷ [] → map view new ≡ map view old ++ view plan ∷ []
pushed old new plan e = ap (map view) e ∙ map-append view old (plan ∷ [])

-- an output that was read, and what stands behind its text
turned : (old : List SlavePlan) (plan : SlavePlan) (text rest : List ℕ) → next_slave (map view old) text ≡ Ok (view plan, rest) → slave_part (map view old) text ≡ Ok (with_slave (map view old) (view plan) rest)
turned old plan text rest a = bind_is (next_slave (map view old) text) (view plan, rest) (λ x. Ok (with_slave (map view old) x.0 x.1)) a

-- the last one
pub last_slave : (old seen new : List SlavePlan) (plan : SlavePlan) (text rest : List ℕ) → seen ≡ old → next_slave (map view seen) text ≡ Ok (view plan, rest) → new ≡ old ++ plan ∷ [] → rest ≡ [] → slaves_behind (map view old) text ≡ Ok (map view new, [])
last_slave old seen new plan text rest v a n e =
    let b : next_slave (map view old) text ≡ Ok (view plan, rest) = subst (λ (l : List SlavePlan). next_slave (map view l) text ≡ Ok (view plan, rest)) v a in
    let c : slave_part (map view old) text ≡ Ok (Last (map view old ++ view plan ∷ []) []) =
    turned old plan text rest b ∙ ap (λ (r : List ℕ). Ok (with_slave (map view old) (view plan) r)) e in
    last_part slave_part TooManySlaves slaves_shrink (map view old) (map view old ++ view plan ∷ []) text [] c
    ∙ ap (λ (l : List Slave). Ok (l, [])) (sym (pushed old new plan n))

-- one that others follow
pub more_slaves : (old seen new : List SlavePlan) (plan : SlavePlan) (text rest after : List ℕ) (c : ℕ) → seen ≡ old → next_slave (map view seen) text ≡ Ok (view plan, rest) → new ≡ old ++ plan ∷ [] → rest ≡ c ∷ after → slaves_behind (map view new) after ≡ slaves_behind (map view old) text
more_slaves old seen new plan text rest after c v a n e =
    let b : next_slave (map view old) text ≡ Ok (view plan, rest) = subst (λ (l : List SlavePlan). next_slave (map view l) text ≡ Ok (view plan, rest)) v a in
    let d : slave_part (map view old) text ≡ Ok (More (map view old ++ view plan ∷ []) after) =
    turned old plan text rest b ∙ ap (λ (r : List ℕ). Ok (with_slave (map view old) (view plan) r)) e in
    ap (λ (l : List Slave). slaves_behind l after) (pushed old new plan n)
    ∙ more_parts slave_part TooManySlaves slaves_shrink (map view old) (map view old ++ view plan ∷ []) text after d

-- one at fault
pub bad_slave : (old seen : List SlavePlan) (text : List ℕ) (e : ReadError) → seen ≡ old → Fails e (next_slave (map view seen) text) → Fails e (slaves_behind (map view old) text)
bad_slave old seen text e v f =
    bad_part slave_part TooManySlaves slaves_shrink (map view old) text e
    (bind_fails e (next_slave (map view old) text) (λ x. Ok (with_slave (map view old) x.0 x.1)) (subst (λ (l : List SlavePlan). Fails e (next_slave (map view l) text)) v f))
