-- Runs that take numbers, one after another.
use Rattle.std.proofs.Common.{◌≡◌, ℕ, ◌+◌, ◌≤◌, arith, inl, inr, Bool, true, false, List, [], ◌∷◌, ◌++◌, length, refl, ap, ◌∙◌, sym, subst, append_assoc, Result, Ok, Err}
use Rattle.std.specs.Prelude.{map, is_ok, OnOk, IsErrOf, nat_eq, cond}
use Rattle.rmx_edge.specs.declared.shelf.ShelfFault.{ShelfFault}
use Rattle.rmx_edge.specs.declared.shelf.ShelfFault.TheVariants.{NoMemory}
use Rattle.rmx_edge.specs.Count.{raised}
use Rattle.rmx_edge.specs.Pieces.{writes, write_of}
use Rattle.rmx_edge.specs.Run.{Stopped, Runs}
use Rattle.rmx_edge.specs.Shelf.{ShelfCall, ShelfState, Create, Write}
use Rattle.rmx_edge.proofs.Run.{runs_then, runs_stopped, stopped_past}
use Rattle.segmenter.specs.Numbers.{is_create, creates, called, NumberedRuns, RunsOrWants}

pub creates-append : (xs ys : List ShelfCall) → creates (xs ++ ys) ≡ creates xs + creates ys
creates-append [] ys = omega arith
creates-append (x ∷ xs) ys = omega (arith, creates-append xs ys)

-- the calls up to a stop create no more than all
front_creates : (made : List ShelfCall) (refused : ShelfCall) (rest : List ShelfCall) → creates (made ++ refused ∷ rest) ≡ creates (made ++ refused ∷ []) + creates rest
front_creates made refused rest = omega (arith, creates-append made (refused ∷ rest), creates-append made (refused ∷ []))

-- where nothing creates a file, nothing up to a stop does
pub none_created : (calls : List ShelfCall) {n : ℕ} {a b : ShelfState} (stop : Stopped calls n a b) → creates calls ≡ 0 → creates (called stop) ≡ 0
none_created calls stop none = omega (arith, front_creates stop.made stop.refused stop.rest, ap creates stop.split)

-- a stop behind the first calls, where the next one alone creates a file
past_create : (xs : List ShelfCall) (name : List ℕ) (zs made : List ShelfCall) (refused : ShelfCall) (rest : List ShelfCall)
    → xs ++ Create name ∷ zs ≡ made ++ refused ∷ rest → length xs ≤ length made → creates xs ≡ 0 → creates zs ≡ 0 → creates (made ++ refused ∷ []) ≡ 1
past_create [] name zs [] refused rest e l none behind = let same : refused ≡ Create name = cc in ap (λ (call : ShelfCall). is_create call + 0) same
past_create [] name zs (m ∷ made) refused rest e l none behind =
    let first : m ≡ Create name = cc in
    let others : zs ≡ made ++ refused ∷ rest = cc in
    let count : creates zs ≡ creates (made ++ refused ∷ []) + creates rest = ap creates others ∙ front_creates made refused rest in
    let one : is_create m ≡ 1 = ap is_create first in
    omega arith
past_create (x ∷ xs) name zs [] refused rest e l none behind = absurd (omega arith)
past_create (x ∷ xs) name zs (m ∷ made) refused rest e l none behind =
    let first : x ≡ m = cc in
    let others : xs ++ Create name ∷ zs ≡ made ++ refused ∷ rest = cc in
    let same : is_create x ≡ is_create m = ap is_create first in
    let shorter : length xs ≤ length made = omega arith in
    let front : creates xs ≡ 0 = omega arith in
    let here : is_create x ≡ 0 = omega arith in
    omega (arith, past_create xs name zs made refused rest others shorter front behind)

-- pieces create nothing
pub writes_create : (pieces : List (List ℕ)) → creates (writes pieces) ≡ 0
unfolding writes
writes_create [] = refl
writes_create (piece ∷ pieces) = creates-append (write_of piece) (writes pieces) ∙ (let one : creates (write_of piece) ≡ 0 = elim (nat_eq (length piece) 0) as (λ b. creates (cond b [] (Write piece ∷ [])) ≡ 0) [ true ↦ refl | false ↦ refl ] in omega (arith, writes_create pieces))

pub map_creates : (pieces : List (List ℕ)) → creates (map Write pieces) ≡ 0
map_creates [] = refl
map_creates (piece ∷ pieces) = omega (arith, map_creates pieces)

pub on_ok : {T E : Type 0} {P : Type 0} (r : Result T E) → OnOk r P → is_ok r ≡ true → P
on_ok (Ok x) h ok = h
on_ok (Err e) h ok = cc

-- a stop is one of every longer list of calls too
stop_longer : (xs ys : List ShelfCall) {a b : ShelfState} (stop : Stopped xs 0 a b) → (s : Stopped (xs ++ ys) 0 a b) × (creates (called s) ≡ creates (called stop))
stop_longer xs ys stop = (
  record {
    made = stop.made;
    refused = stop.refused;
    rest = stop.rest ++ ys;
    split = ap (λ (zs : List ShelfCall). zs ++ ys) stop.split ∙ append_assoc stop.made (stop.refused ∷ stop.rest) ys;
    enough = stop.enough;
    takes = stop.takes;
    count = stop.count;
    accepted = stop.accepted;
  },
  refl,
)

stop_least : (calls : List ShelfCall) (k : ℕ) {a b : ShelfState} (stop : Stopped calls k a b) → (s : Stopped calls 0 a b) × (creates (called s) ≡ creates (called stop))
stop_least calls k stop = (
  record {
    made = stop.made;
    refused = stop.refused;
    rest = stop.rest;
    split = stop.split;
    enough = omega arith;
    takes = stop.takes;
    count = stop.count;
    accepted = stop.accepted;
  },
  refl,
)

-- behind calls that were all made, where no more create a file
behind_all : (xs ys made : List ShelfCall) (refused : ShelfCall) (rest : List ShelfCall) → xs ++ ys ≡ made ++ refused ∷ rest → length xs ≤ length made → creates ys ≡ 0
    → creates xs ≡ creates (made ++ refused ∷ [])
behind_all [] ys made refused rest e l none =
    let count : creates ys ≡ creates (made ++ refused ∷ []) + creates rest = ap creates e ∙ front_creates made refused rest in omega arith
behind_all (x ∷ xs) ys [] refused rest e l none = absurd (omega arith)
behind_all (x ∷ xs) ys (m ∷ made) refused rest e l none =
    let first : x ≡ m = cc in
    let others : xs ++ ys ≡ made ++ refused ∷ rest = cc in
    let same : is_create x ≡ is_create m = ap is_create first in
    let shorter : length xs ≤ length made = omega arith in
    omega (arith, behind_all xs ys made refused rest others shorter none)

all_created : (xs ys : List ShelfCall) {a b : ShelfState} (stop : Stopped (xs ++ ys) (length xs) a b) → creates ys ≡ 0 → creates xs ≡ creates (called stop)
all_created xs ys stop none = behind_all xs ys stop.made stop.refused stop.rest stop.split stop.enough none

-- calls that create no file take no number
pub takes_none : {T : Type 0} (calls : List ShelfCall) (r : Result T ShelfFault) (n m : ℕ) (a b : ShelfState) → creates calls ≡ 0 → m ≡ n → Runs calls r a b → NumberedRuns calls r n m a b
takes_none calls (Ok x) n m a b none same run = record { run = run; numbers = let e : n ≡ raised n 0 = omega arith in same ∙ e ∙ ap (raised n) (sym none) }
takes_none calls (Err e) n m a b none same run = record {
  run = run;
  numbers = (run.calls_made, (let z : n ≡ raised n 0 = omega arith in same ∙ z ∙ ap (raised n) (sym (none_created calls run.calls_made none))));
}

-- calls that begin with a create, behind which there is none, take one number
pub takes_one : {T : Type 0} (calls : List ShelfCall) (name : List ℕ) (zs : List ShelfCall) (r : Result T ShelfFault) (n m : ℕ) (a b : ShelfState)
    → calls ≡ Create name ∷ zs → creates zs ≡ 0 → m ≡ raised n 1 → Runs calls r a b → NumberedRuns calls r n m a b
takes_one calls name zs (Ok x) n m a b is none next run =
    let one : creates calls ≡ 1 = ap creates is ∙ (let e : 1 + creates zs ≡ 1 = omega arith in e) in
    record { run = run; numbers = next ∙ ap (raised n) (sym one) }
takes_one {T} calls name zs (Err e) n m a b is none next run =
    let stop : Stopped (Create name ∷ zs) 0 a b = subst (λ (cs : List ShelfCall). Stopped cs 0 a b) is run.calls_made in
    let one : creates (called run.calls_made) ≡ 1 = past_create [] name zs run.calls_made.made run.calls_made.refused run.calls_made.rest (sym is ∙ run.calls_made.split) (omega arith) refl none in
    record { run = run; numbers = (run.calls_made, next ∙ ap (raised n) (sym one)) }

-- a run that was stopped took the same numbers in every longer list of calls
pub numbered_stopped : {T : Type 0} (xs ys : List ShelfCall) (e : ShelfFault) (n m : ℕ) (a b : ShelfState) → NumberedRuns {T = T} xs (Err e) n m a b → NumberedRuns {T = T} (xs ++ ys) (Err e) n m a b
numbered_stopped xs ys e n m a b h =
    let longer = stop_longer xs ys h.numbers.0 in
    record { run = runs_stopped ys h.run; numbers = (longer.0, h.numbers.1 ∙ ap (raised n) (sym longer.1)) }

-- calls that took no number, and then calls of which the first alone creates a file
pub none_then_one : {T : Type 0} (xs ys : List ShelfCall) (name : List ℕ) (zs : List ShelfCall) (x : T) (r : Result T ShelfFault) (n m : ℕ) (a b c : ShelfState)
    → creates xs ≡ 0 → ys ≡ Create name ∷ zs → creates zs ≡ 0 → m ≡ raised n 1 → Runs xs (Ok x) a b → Runs ys r b c → NumberedRuns (xs ++ ys) r n m a c
none_then_one xs ys name zs x (Ok y) n m a b c none is behind next p q =
    let one : creates (xs ++ ys) ≡ 1 = creates-append xs ys ∙ (let e : creates ys ≡ 1 + creates zs = ap creates is in omega arith) in
    record { run = runs_then p q; numbers = next ∙ ap (raised n) (sym one) }
none_then_one {T} xs ys name zs x (Err e) n m a b c none is behind next p q =
    let far : Stopped (xs ++ ys) (length xs) a c = stopped_past p q in
    let one : creates (called far) ≡ 1 = past_create xs name zs far.made far.refused far.rest (ap (λ (l : List ShelfCall). xs ++ l) (sym is) ∙ far.split) far.enough none behind in
    let near = stop_least (xs ++ ys) (length xs) far in
    record { run = runs_then p q; numbers = (near.0, next ∙ ap (raised n) (sym one) ∙ ap (raised n) (sym near.1)) }

-- calls that took numbers, and then calls that create no file
pub numbered_then : {T : Type 0} (xs ys : List ShelfCall) (x : T) (r : Result T ShelfFault) (n m : ℕ) (a b c : ShelfState) → creates ys ≡ 0
    → NumberedRuns xs (Ok x) n m a b → Runs ys r b c → NumberedRuns (xs ++ ys) r n m a c
numbered_then xs ys x (Ok y) n m a b c none p q =
    let same : creates xs ≡ creates (xs ++ ys) = (let e : creates xs ≡ creates xs + creates ys = omega arith in e) ∙ sym (creates-append xs ys) in
    record { run = runs_then p.run q; numbers = p.numbers ∙ ap (raised n) same }
numbered_then xs ys x (Err e) n m a b c none p q =
    let far : Stopped (xs ++ ys) (length xs) a c = stopped_past p.run q in
    let near = stop_least (xs ++ ys) (length xs) far in
    let same : creates xs ≡ creates (called far) = all_created xs ys far none in
    record { run = runs_then p.run q; numbers = (near.0, p.numbers ∙ ap (raised n) same ∙ ap (raised n) (sym near.1)) }

-- a file was ended and the next one begun, and then a packet written
pub cut_then : {T : Type 0} (end begin put : List ShelfCall) (asked : Bool) (x : T) (r : Result T ShelfFault) (n m k : ℕ) (a b c : ShelfState) → creates put ≡ 0 → k ≡ m
    → RunsOrWants (end ++ begin) asked (Ok x) n m a b → Runs put r b c → RunsOrWants (end ++ (begin ++ put)) asked r n k a c
cut_then end begin put asked x r n m k a b c none same (inl p) q =
    inl (subst (λ (calls : List ShelfCall). NumberedRuns calls r n k a c) (append_assoc end begin put)
    (subst (λ (j : ℕ). NumberedRuns ((end ++ begin) ++ put) r n j a c) (sym same) (numbered_then (end ++ begin) put x r n m a b c none p q)))
cut_then {T} end begin put asked x r n m k a b c none same (inr w) q = let answer : IsErrOf {T = T} {E = ShelfFault} (Ok x) NoMemory = w.answer in cc

pub cut_stopped : {T : Type 0} (end begin put : List ShelfCall) (asked : Bool) (e : ShelfFault) (n m : ℕ) (a b : ShelfState)
    → RunsOrWants {T = T} (end ++ begin) asked (Err e) n m a b → RunsOrWants {T = T} (end ++ (begin ++ put)) asked (Err e) n m a b
cut_stopped {T} end begin put asked e n m a b (inl p) =
    inl (subst (λ (calls : List ShelfCall). NumberedRuns {T = T} calls (Err e) n m a b) (append_assoc end begin put) (numbered_stopped (end ++ begin) put e n m a b p))
cut_stopped end begin put asked e n m a b (inr w) = inr (record { asked_for = w.asked_for; answer = w.answer; number_kept = w.number_kept; shelf_kept = w.shelf_kept })
