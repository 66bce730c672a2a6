-- What holds of the machine after any list of events.
use Rattle.std.proofs.Common.{◌≡◌, ◌≢◌, ℕ, zero, suc, ◌+◌, ◌-◌, ◌<◌, ◌≤◌, List, [], ◌∷◌, ◌++◌, length, drop, Option, Some, None, Bool, true, false, refl, sym, ap, ◌∙◌, subst, arith, append_assoc, append-nil, length-append, add-one}
use Rattle.std.specs.Prelude.{take as front, sum_by, slice_get, if◌then◌else◌}
use Rattle.std.proofs.lemmas.List.{length-drop, drop-append-le, take-append-le, take-append-drop}
use Rattle.std.proofs.lemmas.List.Sums.{sum_by_push, sum_by-cons}
use Rattle.std.proofs.lemmas.Option.{slice_get_within}
use Rattle.lane_core.specs.Machine.{Event, offer, take, see, close, fail, Reply, empty, ended, done, shut, Bounds, Machine, start, is_full, took, offered, next, final, history}
use Rattle.lane_core.specs.Laws.{accepted_by, answered_by, got_by, given_in, answered_in, got_in, offers_before_close, IsLawful}
use Rattle.lane_core.proofs.Full.{room_tells}

-- what holds in both cases of a choice
pub chosen : {A : Type 0} (P : A → Type 0) (b : Bool) (x y : A) → (b ≡ true → P x) → (b ≡ false → P y) → P (if b then x else y)
chosen P true x y h k = h refl
chosen P false x y h k = k refl

drop_suc : {A : Type 0} (xs : List A) (n : ℕ) (x : A) → slice_get xs n ≡ Some x → drop n xs ≡ x ∷ drop (suc n) xs
drop_suc [] n x e = absurd (cc)
drop_suc (y ∷ ys) zero x e = ap (λ z. z ∷ ys) (let s : y ≡ x = cc in s)
drop_suc (y ∷ ys) (suc n) x e = drop_suc ys n x e

pub drop_one : {A : Type 0} (xs : List A) (n : ℕ) (x : A) → slice_get xs n ≡ Some x → drop n xs ≡ x ∷ drop (n + 1) xs
drop_one xs n x e = drop_suc xs n x e ∙ ap (λ z. x ∷ drop z xs) (sym (add-one n))

front_suc : {A : Type 0} (xs : List A) (n : ℕ) (x : A) → slice_get xs n ≡ Some x → front (suc n) xs ≡ front n xs ++ x ∷ []
front_suc [] n x e = absurd (cc)
front_suc (y ∷ ys) zero x e = ap (λ z. z ∷ []) (let s : y ≡ x = cc in s)
front_suc (y ∷ ys) (suc n) x e = ap (λ z. y ∷ z) (front_suc ys n x e)

pub front_more : {A : Type 0} (xs : List A) (n : ℕ) (x : A) → slice_get xs n ≡ Some x → front (n + 1) xs ≡ front n xs ++ x ∷ []
front_more xs n x e = ap (λ z. front z xs) (add-one n) ∙ front_suc xs n x e

no_more : {A : Type 0} (xs : List A) → length xs ≡ 0 → xs ≡ []
no_more [] e = refl
no_more (x ∷ xs) e = absurd (omega arith)

-- what holds of every machine that can be reached
record Sound {T : Type 0} (size : T → ℕ) (b : Bounds) (m : Machine T) : Type 0 where
  low : m.taken ≤ length m.given
  high : length m.given ≤ m.taken + b.cap
  light : 0 < b.limit → b.limit < sum_by size (drop m.taken m.given) → length (drop m.taken m.given) ≡ 1

module _ {T : Type 0} (size : T → ℕ) (b : Bounds) where
  sound_start : Sound size b (start {T = T})
  sound_start = record { low = omega arith; high = omega arith; light = λ p l. absurd (omega arith) }

  sound_offered : (m : Machine T) (x : T) → Sound size b m → (f : Bool) → is_full size b m.given m.taken (size x) ≡ f → Sound size b (offered m x f).0
  sound_offered m x h true is = record { low = h.low; high = h.high; light = h.light }
  sound_offered m x h false is = let room = room_tells b.cap b.limit (length m.given) m.taken (sum_by size (drop m.taken m.given) + size x) is in
      let one : length (m.given ++ x ∷ []) ≡ length m.given + 1 = length-append m.given (x ∷ []) in let low : m.taken ≤ length m.given = h.low in let high : length m.given ≤ m.taken + b.cap = h.high in
      let cut : drop m.taken (m.given ++ x ∷ []) ≡ drop m.taken m.given ++ x ∷ [] = drop-append-le m.taken m.given (x ∷ []) low in let left : length (drop m.taken m.given) ≡ length m.given - m.taken = length-drop m.taken m.given in
      let ne : length m.given ≢ m.taken + b.cap = room.0 in record {
        low = omega arith;
        high = omega arith;
        light = λ p l. let heavier : b.limit < sum_by size (drop m.taken m.given) + size x = subst (λ (z : ℕ). b.limit < z) (ap (sum_by size) cut ∙ sum_by_push size (drop m.taken m.given) x) l in
            let none : ¬ (m.taken < length m.given) = λ some. let le = room.1 p some in omega arith in
            ap length cut ∙ (length-append (drop m.taken m.given) (x ∷ []) ∙ (omega arith));
      }

  sound_took : (m : Machine T) → Sound size b m → (o : Option T) → slice_get m.given m.taken ≡ o → Sound size b (took m o).0
  sound_took m h None is = h
  sound_took m h (Some x) is = let within : m.taken < length m.given = slice_get_within m.given m.taken x is in let high : length m.given ≤ m.taken + b.cap = h.high in
      let rest : List T = drop (m.taken + 1) m.given in let cut : drop m.taken m.given ≡ x ∷ rest = drop_one m.given m.taken x is in record {
        low = omega arith;
        high = omega arith;
        light = λ p l. let more : b.limit < sum_by size (drop m.taken m.given) = subst (λ (z : List T). b.limit < sum_by size z) (sym cut) (let l' : b.limit < sum_by size rest = l in let s : sum_by size (x ∷ rest) ≡ size x + sum_by size rest = sum_by-cons size x rest in omega arith) in
            let one : length (x ∷ rest) ≡ 1 = ap length (sym cut) ∙ h.light p more in let nil : rest ≡ [] = no_more rest (omega arith) in let nothing : sum_by size rest ≡ 0 = ap (sum_by size) nil in absurd (omega arith);
      }

  sound_next : (m : Machine T) (e : Event T) → Sound size b m → Sound size b (next size b m e).0
  sound_next m (offer x) h = chosen (λ (p : Machine T × Reply T). Sound size b p.0) m.closed _ _ (λ _. h) (λ _. sound_offered m x h (is_full size b m.given m.taken (size x)) refl)
  sound_next m take h = sound_took m h (slice_get m.given m.taken) refl
  sound_next m see h = h
  sound_next m close h = chosen (λ (p : Machine T × Reply T). Sound size b p.0) m.closed _ _ (λ _. h) (λ _. record { low = h.low; high = h.high; light = h.light })
  sound_next m fail h = record { low = h.low; high = h.high; light = h.light }

  sound_final : (m : Machine T) (es : List (Event T)) → Sound size b m → Sound size b (final size b m es)
  sound_final m [] h = h
  sound_final m (e ∷ es) h = sound_final (next size b m e).0 es (sound_next m e h)

  given_offered : (m : Machine T) (x : T) (ys : List T) (f : Bool) → (offered m x f).0.given ++ ys ≡ m.given ++ accepted_by (offer x) (offered m x f).1 ys
  given_offered m x ys true = refl
  given_offered m x ys false = append_assoc m.given (x ∷ []) ys

  given_took : (m : Machine T) (ys : List T) (o : Option T) → (took m o).0.given ++ ys ≡ m.given ++ accepted_by take (took m o).1 ys
  given_took m ys (Some x) = refl
  given_took m ys None = chosen (λ (r : Reply T). m.given ++ ys ≡ m.given ++ accepted_by take r ys) m.closed ended empty (λ _. refl) (λ _. refl)

  given_next : (m : Machine T) (e : Event T) (ys : List T) → (next size b m e).0.given ++ ys ≡ m.given ++ accepted_by e (next size b m e).1 ys
  given_next m (offer x) ys = chosen (λ (p : Machine T × Reply T). p.0.given ++ ys ≡ m.given ++ accepted_by (offer x) p.1 ys) m.closed (m, shut) (offered m x (is_full size b m.given m.taken (size x))) (λ _. refl) (λ _. given_offered m x ys (is_full size b m.given m.taken (size x)))
  given_next m take ys = given_took m ys (slice_get m.given m.taken)
  given_next m see ys = refl
  given_next m close ys = chosen (λ (p : Machine T × Reply T). p.0.given ++ ys ≡ m.given ++ accepted_by close p.1 ys) m.closed (m, shut) (record m { closed = true }, done) (λ _. refl) (λ _. refl)
  given_next m fail ys = refl

  given_final : (m : Machine T) (es : List (Event T)) → (final size b m es).given ≡ m.given ++ given_in (history size b m es)
  given_final m [] = sym (append-nil m.given)
  given_final m (e ∷ es) = given_final (next size b m e).0 es ∙ given_next m e (given_in (history size b (next size b m e).0 es))

  got_offered : (m : Machine T) (x : T) (ys : List T) (f : Bool) → m.taken ≤ length m.given → front (offered m x f).0.taken (offered m x f).0.given ++ ys ≡ front m.taken m.given ++ got_by (offered m x f).1 ys
  got_offered m x ys true low = refl
  got_offered m x ys false low = ap (λ z. z ++ ys) (take-append-le m.taken m.given (x ∷ []) low)

  got_took : (m : Machine T) (ys : List T) (o : Option T) → slice_get m.given m.taken ≡ o → front (took m o).0.taken (took m o).0.given ++ ys ≡ front m.taken m.given ++ got_by (took m o).1 ys
  got_took m ys (Some x) is = ap (λ z. z ++ ys) (front_more m.given m.taken x is) ∙ append_assoc (front m.taken m.given) (x ∷ []) ys
  got_took m ys None is = chosen (λ (r : Reply T). front m.taken m.given ++ ys ≡ front m.taken m.given ++ got_by r ys) m.closed ended empty (λ _. refl) (λ _. refl)

  got_next : (m : Machine T) (e : Event T) (ys : List T) → m.taken ≤ length m.given → front (next size b m e).0.taken (next size b m e).0.given ++ ys ≡ front m.taken m.given ++ got_by (next size b m e).1 ys
  got_next m (offer x) ys low = chosen (λ (p : Machine T × Reply T). front p.0.taken p.0.given ++ ys ≡ front m.taken m.given ++ got_by p.1 ys) m.closed (m, shut) (offered m x (is_full size b m.given m.taken (size x))) (λ _. refl) (λ _. got_offered m x ys (is_full size b m.given m.taken (size x)) low)
  got_next m take ys low = got_took m ys (slice_get m.given m.taken) refl
  got_next m see ys low = refl
  got_next m close ys low = chosen (λ (p : Machine T × Reply T). front p.0.taken p.0.given ++ ys ≡ front m.taken m.given ++ got_by p.1 ys) m.closed (m, shut) (record m { closed = true }, done) (λ _. refl) (λ _. refl)
  got_next m fail ys low = refl

  got_final : (m : Machine T) (es : List (Event T)) → Sound size b m → front (final size b m es).taken (final size b m es).given ≡ front m.taken m.given ++ got_in (history size b m es)
  got_final m [] h = sym (append-nil (front m.taken m.given))
  got_final m (e ∷ es) h = got_final (next size b m e).0 es (sound_next m e h) ∙ got_next m e (got_in (history size b (next size b m e).0 es)) h.low

  -- an event after the close
  shut_next : (m : Machine T) (e : Event T) (ys : List T) → m.closed ≡ true → ((next size b m e).0.closed ≡ true) × (answered_by e (next size b m e).1 ys ≡ ys)
  shut_next m (offer x) ys c = chosen (λ (p : Machine T × Reply T). (p.0.closed ≡ true) × (answered_by (offer x) p.1 ys ≡ ys)) m.closed (m, shut) (offered m x (is_full size b m.given m.taken (size x))) (λ _. (c, refl)) (λ o. absurd (cc))
  shut_next m take ys c = took_shut (slice_get m.given m.taken)
    where
      took_shut : (o : Option T) → ((took m o).0.closed ≡ true) × (answered_by take (took m o).1 ys ≡ ys)
      took_shut (Some x) = (c, refl)
      took_shut None = (c, chosen (λ (r : Reply T). answered_by take r ys ≡ ys) m.closed ended empty (λ _. refl) (λ _. refl))
  shut_next m see ys c = (c, refl)
  shut_next m close ys c = chosen (λ (p : Machine T × Reply T). (p.0.closed ≡ true) × (answered_by close p.1 ys ≡ ys)) m.closed (m, shut) (record m { closed = true }, done) (λ _. (c, refl)) (λ _. (refl, refl))
  shut_next m fail ys c = (c, refl)

  shut_answers : (m : Machine T) (es : List (Event T)) → m.closed ≡ true → answered_in (history size b m es) ≡ []
  shut_answers m [] c = refl
  shut_answers m (e ∷ es) c = let x = shut_next m e (answered_in (history size b (next size b m e).0 es)) c in x.1 ∙ shut_answers (next size b m e).0 es x.0

  open_offered : (m : Machine T) (x : T) (ys : List T) (f : Bool) → m.closed ≡ false → ((offered m x f).0.closed ≡ false) × (answered_by (offer x) (offered m x f).1 ys ≡ x ∷ ys)
  open_offered m x ys true o = (o, refl)
  open_offered m x ys false o = (o, refl)

  took_open : (m : Machine T) (ys : List T) (o : Option T) → ((took m o).0.closed ≡ m.closed) × (answered_by take (took m o).1 ys ≡ ys)
  took_open m ys (Some x) = (refl, refl)
  took_open m ys None = (refl, chosen (λ (r : Reply T). answered_by take r ys ≡ ys) m.closed ended empty (λ _. refl) (λ _. refl))

  pub open_answers : (m : Machine T) (es : List (Event T)) → m.closed ≡ false → answered_in (history size b m es) ≡ offers_before_close es
  open_answers m [] o = refl
  open_answers m (offer x ∷ es) o = chosen (λ (p : Machine T × Reply T). answered_by (offer x) p.1 (answered_in (history size b p.0 es)) ≡ x ∷ offers_before_close es) m.closed (m, shut) (offered m x (is_full size b m.given m.taken (size x))) (λ c. absurd (cc))
      (λ _. let f : Bool = is_full size b m.given m.taken (size x) in let y = open_offered m x (answered_in (history size b (offered m x f).0 es)) f o in y.1 ∙ ap (λ z. x ∷ z) (open_answers (offered m x f).0 es y.0))
  open_answers m (take ∷ es) o = let n : Machine T = (took m (slice_get m.given m.taken)).0 in let y = took_open m (answered_in (history size b n es)) (slice_get m.given m.taken) in y.1 ∙ open_answers n es (y.0 ∙ o)
  open_answers m (see ∷ es) o = open_answers m es o
  open_answers m (close ∷ es) o = chosen (λ (p : Machine T × Reply T). answered_by close p.1 (answered_in (history size b p.0 es)) ≡ []) m.closed (m, shut) (record m { closed = true }, done) (λ c. absurd (cc)) (λ _. shut_answers record m { closed = true } es refl)
  open_answers m (fail ∷ es) o = open_answers record m { failed = true } es o

  pub lawful : (es : List (Event T)) → IsLawful size b es
  lawful es = let m : Machine T = final size b (start {T = T}) es in let h = sound_final (start {T = T}) es sound_start in let given : m.given ≡ given_in (history size b start es) = given_final (start {T = T}) es in
      let taken : front m.taken m.given ≡ got_in (history size b start es) = got_final (start {T = T}) es sound_start in
      let both : given_in (history size b start es) ≡ got_in (history size b start es) ++ drop m.taken m.given = sym given ∙ (sym (take-append-drop m.taken m.given) ∙ ap (λ z. z ++ drop m.taken m.given) taken) in record {
        in_order = (drop m.taken m.given, sym both);
        whole = both;
        bounded = let l : length (drop m.taken m.given) ≡ length m.given - m.taken = length-drop m.taken m.given in let high : length m.given ≤ m.taken + b.cap = h.high in omega arith;
        light = h.light;
        answered = open_answers (start {T = T}) es refl;
      }

-- the first that waits is the next to take
pub next_waits : {A : Type 0} (xs : List A) (n : ℕ) (x : A) (rest : List A) → x ∷ rest ≡ drop n xs → (slice_get xs n ≡ Some x) × (rest ≡ drop (n + 1) xs)
next_waits {A} xs n x rest e = let at : slice_get xs n ≡ Some x = here xs n e in let s : x ∷ rest ≡ x ∷ drop (n + 1) xs = e ∙ drop_one xs n x at in (at, cc)
  where
    here : (ys : List A) (k : ℕ) → x ∷ rest ≡ drop k ys → slice_get ys k ≡ Some x
    here [] zero e = absurd (cc)
    here [] (suc k) e = absurd (cc)
    here (y ∷ ys) zero e = ap Some (let s : y ≡ x = cc in s)
    here (y ∷ ys) (suc k) e = here ys k e

module _ {T : Type 0} (size : T → ℕ) (b : Bounds) where
  pub final_more : (m : Machine T) (es : List (Event T)) (e : Event T) → final size b m (es ++ e ∷ []) ≡ (next size b (final size b m es) e).0
  final_more m [] e = refl
  final_more m (x ∷ es) e = final_more (next size b m x).0 es e

  pub history_more : (m : Machine T) (es : List (Event T)) (e : Event T) → history size b m (es ++ e ∷ []) ≡ history size b m es ++ (e, (next size b (final size b m es) e).1) ∷ []
  history_more m [] e = refl
  history_more m (x ∷ es) e = ap (λ h. (x, (next size b m x).1) ∷ h) (history_more (next size b m x).0 es e)

  abbrev Few : Machine T → Machine T × Reply T → Type 0
  Few m p = (length p.0.given ≤ length m.given + 1) × (p.0.over ≤ m.over + 1)

  few_offered : (m : Machine T) (x : T) (f : Bool) → Few m (offered m x f)
  few_offered m x true = (omega arith, omega arith)
  few_offered m x false = let l = length-append m.given (x ∷ []) in (omega arith, omega arith)

  few_took : (m : Machine T) (o : Option T) → Few m (took m o)
  few_took m (Some x) = (omega arith, omega arith)
  few_took m None = (omega arith, omega arith)

  -- an event adds at most one message and one refusal
  pub few_next : (m : Machine T) (e : Event T) → Few m (next size b m e)
  few_next m (offer x) = chosen (Few m) m.closed (m, shut) (offered m x (is_full size b m.given m.taken (size x))) (λ _. (omega arith, omega arith)) (λ _. few_offered m x (is_full size b m.given m.taken (size x)))
  few_next m take = few_took m (slice_get m.given m.taken)
  few_next m see = (omega arith, omega arith)
  few_next m close = chosen (Few m) m.closed (m, shut) (record m { closed = true }, done) (λ _. (omega arith, omega arith)) (λ _. (omega arith, omega arith))
  few_next m fail = (omega arith, omega arith)
