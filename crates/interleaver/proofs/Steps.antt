-- What goes out of a longer list begins with what goes out of a shorter one.
use Rattle.std.proofs.Common.{◌≡◌, ℕ, Bool, true, false, List, [], ◌∷◌, ◌++◌, append_assoc, ap, ◌∙◌, sym, refl, subst, ◌<◌, arith, zero, suc, Option, Some, None}
use Rattle.std.specs.Prelude.{ℤ, negsuc, ◌==◌, ◌||◌, ◌&&◌, is_some, ◌-◌}
use Rattle.interleaver.specs.Queues.{Pending, Pushed, Pops, Carries, Gives, goes, last_of, front_dts}
use Rattle.std.specs.Prelude.{if◌then◌else◌, fold}
use Rattle.std.proofs.lemmas.List.Sums.{fold-append}
use Rattle.rmx_media.specs.declared.packet.Packet.{Packet}
use Rattle.interleaver.specs.Interleave.{Line, release, arrive, line_of, no_line, may_go, put_in, emitted, interleave, IsLined, last_dts}

append_nil : (xs : List Packet) → xs ++ [] ≡ xs
append_nil [] = refl
append_nil (x ∷ xs) = ap (λ (ys : List Packet). x ∷ ys) (append_nil xs)

-- releasing only adds
pub release_adds : (n delta : ℕ) (out pending : List Packet) → (more : List Packet) × ((release n delta out pending).out ≡ out ++ more)
release_adds n delta out [] = ([], sym (append_nil out))
release_adds n delta out (x ∷ xs) = adds (may_go n delta (x ∷ xs)) (release_adds n delta (out ++ x ∷ []) xs)
  where
    adds : (b : Bool) → ((more : List Packet) × ((release n delta (out ++ x ∷ []) xs).out ≡ (out ++ x ∷ []) ++ more)) → (more : List Packet) × ((if b then release n delta (out ++ x ∷ []) xs else record { out = out; pending = x ∷ xs }).out ≡ out ++ more)
    adds true (more, e) = (x ∷ more, e ∙ append_assoc out (x ∷ []) more)
    adds false r = ([], sym (append_nil out))

-- one more arrives
pub line_of-more : (n delta : ℕ) (packets : List Packet) (p : Packet) → line_of n delta (packets ++ p ∷ []) ≡ arrive n delta (line_of n delta packets) p
unfolding line_of
line_of-more n delta packets p = fold-append (arrive n delta) no_line packets (p ∷ [])

-- what went out stays, whatever comes
pub emitted_adds : (n delta : ℕ) (packets more : List Packet) → (rest : List Packet) × (emitted n delta (packets ++ more) ≡ emitted n delta packets ++ rest)
unfolding line_of
emitted_adds n delta packets more =
    let r = folds (fold (arrive n delta) no_line packets) more in
    (r.0, ap (λ (l : Line). l.out) (fold-append (arrive n delta) no_line packets more) ∙ r.1)
  where
    folds : (l : Line) (more : List Packet) → (rest : List Packet) × ((fold (arrive n delta) l more).out ≡ l.out ++ rest)
    folds l [] = ([], sym (append_nil l.out))
    folds l (p ∷ more) =
        let a = release_adds n delta l.out (put_in p l.pending) in
        let b = folds (arrive n delta l p) more in
        (a.0 ++ b.0, b.1 ∙ ap (λ (o : List Packet). o ++ b.0) a.1 ∙ append_assoc l.out a.0 b.0)

pub settled : (n delta : ℕ) (out pending : List Packet) → may_go n delta pending ≡ false → release n delta out pending ≡ record { out = out; pending = pending }
settled n delta out [] e = refl
settled n delta out (x ∷ xs) e = ap (λ (b : Bool). if b then release n delta (out ++ x ∷ []) xs else record { out = out; pending = x ∷ xs }) e

-- a push where nothing may go, and the two answers of a pop
pub lined_push : (n delta : ℕ) (packets out pending : List Packet) (p : Packet) → may_go n delta pending ≡ false → IsLined n delta packets out pending → IsLined n delta (packets ++ p ∷ []) out (put_in p pending)
lined_push n delta packets out pending p stuck e =
    ap (λ (l : Line). arrive n delta l p) (sym (settled n delta out pending stuck) ∙ e) ∙ sym (line_of-more n delta packets p)

pub lined_pop : (n delta : ℕ) (packets out xs : List Packet) (x : Packet) → may_go n delta (x ∷ xs) ≡ true → IsLined n delta packets out (x ∷ xs) → IsLined n delta packets (out ++ x ∷ []) xs
lined_pop n delta packets out xs x go e =
    sym (ap (λ (b : Bool). if b then release n delta (out ++ x ∷ []) xs else record { out = out; pending = x ∷ xs }) go) ∙ e

-- where nothing may go, all that goes out went
pub lined_stuck : (n delta : ℕ) (packets out pending : List Packet) → may_go n delta pending ≡ false → IsLined n delta packets out pending → line_of n delta packets ≡ record { out = out; pending = pending }
lined_stuck n delta packets out pending stuck e = sym e ∙ settled n delta out pending stuck

pub lined_none : (n delta : ℕ) → IsLined n delta [] [] []
unfolding line_of
lined_none n delta = refl

-- releasing keeps the whole order
pub release_whole : (n delta : ℕ) (out pending : List Packet) → (release n delta out pending).out ++ (release n delta out pending).pending ≡ out ++ pending
release_whole n delta out [] = refl
release_whole n delta out (x ∷ xs) = by (release_whole n delta (out ++ x ∷ []) xs) (may_go n delta (x ∷ xs))
  where
    by : (release n delta (out ++ x ∷ []) xs).out ++ (release n delta (out ++ x ∷ []) xs).pending ≡ (out ++ x ∷ []) ++ xs → (b : Bool) → (if b then release n delta (out ++ x ∷ []) xs else record { out = out; pending = x ∷ xs }).out ++ (if b then release n delta (out ++ x ∷ []) xs else record { out = out; pending = x ∷ xs }).pending ≡ out ++ (x ∷ xs)
    by rest true = rest ∙ append_assoc out (x ∷ []) xs
    by rest false = refl

lined_whole : (n delta : ℕ) (packets out pending : List Packet) → IsLined n delta packets out pending → interleave n delta packets ≡ out ++ pending
lined_whole n delta packets out pending e = ap (λ (l : Line). l.out ++ l.pending) (sym e) ∙ release_whole n delta out pending

last_dts-more : (stream : ℕ) (packets : List Packet) (p : Packet) → last_dts stream (packets ++ p ∷ []) ≡ (if p.stream == stream then p.dts else last_dts stream packets)
last_dts-more stream packets p = fold-append (λ (dts : ℤ) (q : Packet). if q.stream == stream then q.dts else dts) (negsuc 9223372036854775807) packets (p ∷ [])

pub nothing_carried : (n delta : ℕ) → 0 < n → n < 3 → Carries [] [] record { streams = n; delta = delta; pending = []; first_last = negsuc 9223372036854775807; second_last = negsuc 9223372036854775807; finished = false }
nothing_carried n delta some few = record {
  some_stream = some;
  few = few;
  lined = λ f. lined_none n delta;
  whole = lined_whole n delta [] [] [] (lined_none n delta);
  last = last;
}
  where
    last : (stream : ℕ) → stream < 2 → last_of record { streams = n; delta = delta; pending = []; first_last = negsuc 9223372036854775807; second_last = negsuc 9223372036854775807; finished = false } stream ≡ negsuc 9223372036854775807
    last zero h = refl
    last (suc stream) h = refl

-- where nothing goes before the end, the rule lets nothing go
not_gone : (b g s : Bool) → ((b && s) || g) ≡ false → g ≡ false
not_gone true g true e = cc
not_gone true g false e = e
not_gone false g s e = e

pub carried_push : (p : Packet) (old new : Pending) (pushed out : List Packet) → p.stream < old.streams → old.finished ≡ false → goes old ≡ false → Pushed p old new → Carries pushed out old → Carries (pushed ++ p ∷ []) out new
carried_push p old new pushed out below open_still stuck h c =
    let none : may_go old.streams old.delta old.pending ≡ false = not_gone old.finished (may_go old.streams old.delta old.pending) (is_some (front_dts old.pending)) stuck in
    let l : IsLined new.streams new.delta (pushed ++ p ∷ []) out new.pending = rw (h.streams, h.delta, h.pending) (lined_push old.streams old.delta pushed out old.pending p none (c.lined open_still)) in
    record {
      some_stream = rw h.streams c.some_stream;
      few = rw h.streams c.few;
      lined = λ f. l;
      whole = lined_whole new.streams new.delta (pushed ++ p ∷ []) out new.pending l;
      last = λ stream s. last stream (p.stream == stream) refl s ∙ sym (last_dts-more stream pushed p);
    }
  where
    last : (stream : ℕ) (b : Bool) → (p.stream == stream) ≡ b → stream < 2 → last_of new stream ≡ (if p.stream == stream then p.dts else last_dts stream pushed)
    last stream true e s =
        let st : p.stream ≡ stream = grind (arith, e) in
        subst (λ (k : ℕ). last_of new k ≡ p.dts) st h.last ∙ sym (ap (λ (b : Bool). if b then p.dts else last_dts stream pushed) e)
    last stream false e s =
        let ne : (p.stream ≡ stream → ⊥) = grind (arith, e) in
        let few : old.streams < 3 = c.few in
        let st : 1 - p.stream ≡ stream = omega (arith, few, below) in
        subst (λ (k : ℕ). last_of new k ≡ last_of old k) st h.other ∙ c.last stream s ∙ sym (ap (λ (b : Bool). if b then p.dts else last_dts stream pushed) e)

gone : (b g s : Bool) → b ≡ false → ((b && s) || g) ≡ true → g ≡ true
gone true g s f e = cc
gone false g s f e = e

nothing_left : (b g : Bool) (xs : List Packet) → b ≡ true → ((b && is_some (front_dts xs)) || g) ≡ false → xs ≡ []
nothing_left b g [] f e = refl
nothing_left true g (x ∷ xs) f e = cc
nothing_left false g (x ∷ xs) f e = cc

carried_head : (p : Packet) (old : Pending) (xs pushed out : List Packet) → goes old ≡ true → old.pending ≡ p ∷ xs → Carries pushed out old → Gives (Some p) pushed out old (record old { pending = xs })
carried_head p old xs pushed out go e c = (
  record {
    some_stream = c.some_stream;
    few = c.few;
    lined = next;
    whole = c.whole ∙ ap (λ (l : List Packet). out ++ l) e ∙ sym (append_assoc out (p ∷ []) xs);
    last = last;
  },
  λ f. let a = release_adds old.streams old.delta (out ++ p ∷ []) xs in (a.0, ap (λ (l : Line). l.out) (sym (next f)) ∙ a.1),
)
  where
    next : old.finished ≡ false → IsLined old.streams old.delta pushed (out ++ p ∷ []) xs
    next f =
        let may : may_go old.streams old.delta old.pending ≡ true = gone old.finished (may_go old.streams old.delta old.pending) (is_some (front_dts old.pending)) f go in
        lined_pop old.streams old.delta pushed out xs p (ap (may_go old.streams old.delta) (sym e) ∙ may) (subst (IsLined old.streams old.delta pushed out) e (c.lined f))

    last : (stream : ℕ) → stream < 2 → last_of (record old { pending = xs }) stream ≡ last_dts stream pushed
    last zero s = c.last zero s
    last (suc stream) s = c.last (suc stream) s

pub carried_pop : (r : Option Packet) (old new : Pending) (pushed out : List Packet) → Pops r old new → Carries pushed out old → Gives r pushed out old new
carried_pop (Some p) old new pushed out h c = subst (λ (v : Pending). Gives (Some p) pushed out old v) (sym h.2) (carried_head p old new.pending pushed out h.0 h.1 c)
carried_pop None old new pushed out h c = (
  subst (λ (v : Pending). Carries pushed out v) (sym h.1) c,
  λ f. ap (λ (l : Line). l.out) (lined_stuck old.streams old.delta pushed out old.pending (not_gone old.finished (may_go old.streams old.delta old.pending) (is_some (front_dts old.pending)) h.0) (c.lined f)),
  λ f. c.whole ∙ ap (λ (l : List Packet). out ++ l) (nothing_left old.finished (may_go old.streams old.delta old.pending) old.pending f h.0) ∙ append_nil out,
)

pub emitted_begins : (n delta : ℕ) (packets more : List Packet) → (rest : List Packet) × (interleave n delta (packets ++ more) ≡ emitted n delta packets ++ rest)
emitted_begins n delta packets more =
    let a = emitted_adds n delta packets more in
    (a.0 ++ (line_of n delta (packets ++ more)).pending, ap (λ (l : List Packet). l ++ (line_of n delta (packets ++ more)).pending) a.1 ∙ append_assoc (emitted n delta packets) a.0 (line_of n delta (packets ++ more)).pending)
