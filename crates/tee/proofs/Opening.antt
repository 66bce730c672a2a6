-- Plans, their drafts, and the outputs that are opened.
use Rattle.std.proofs.Common.{◌≡◌, ◌≢◌, ◌<◌, ◌+◌, ℕ, zero, suc, List, [], ◌∷◌, ◌++◌, length, map, get_or, drop, drop-cons, add-one, Bool, true, false, cond, Option, Some, refl, sym, ◌∙◌, ap, subst, arith}
use Rattle.std.specs.Prelude.{◌==◌, All}
use Rattle.std.specs.List.{AllZip}
use Rattle.std.proofs.lemmas.Bool.Decides.{nat_tests}
use Rattle.fifo_core.specs.History.{History}
use Rattle.options.specs.Slave.{Slave}
use Rattle.rmx_edge.specs.Shelf.{ShelfState}
use Rattle.rmx_edge.specs.declared.shelf.Shelf.{Ghosts}
use Rattle.rmx_media.specs.declared.packet.Packet.{Packet}
use Rattle.rmx_media.specs.declared.streams.StreamInfo.{StreamInfo}
use Rattle.tee.specs.Choice.{chosen_streams}
use Rattle.tee.specs.Draft.{AreOpen, IsDraft, IsOpen}
use Rattle.tee.specs.Seat.{AreSeats, IsSeat, Seat, first_without_from}
use Rattle.tee.specs.Sits.{AllSit, Sits}
use Rattle.tee.specs.declared.draft.Draft.{Draft}
use Rattle.tee.specs.declared.output.TeeSlave.{TeeSlave}

-- what holds of all that come of a list holds of that of each item
pub all_map : {A B : Type 0} (P : B → Type 0) (f : A → B) (xs : List A) (k : ℕ) (x : A) → All P (map f xs) → k < length xs → P (f (get_or xs k x))
all_map P f [] k x a lt = absurd (omega arith)
all_map P f (y ∷ ys) zero x a lt = a zero (f y) (omega arith)
all_map P f (y ∷ ys) (suc k) x a lt = all_map P f ys k x (λ n d l. a (suc n) d (omega arith)) (omega arith)

pub all_first : {A : Type 0} (P : A → Type 0) (x : A) (xs : List A) → All P (x ∷ xs) → P x
all_first P x xs a = a zero x (omega arith)

pub all_rest : {A : Type 0} (P : A → Type 0) (x : A) (xs : List A) → All P (x ∷ xs) → All P xs
all_rest P x xs a = λ n d l. a (suc n) d (omega arith)

pub zip_map : {A B C : Type 0} (R : B → C → Type 0) (f : A → B) (xs : List A) (ys : List C) → AllZip (λ x y. R (f x) y) xs ys → AllZip R (map f xs) ys
zip_map R f [] [] h = tt
zip_map R f [] (y ∷ ys) h = absurd h
zip_map R f (x ∷ xs) [] h = absurd h
zip_map R f (x ∷ xs) (y ∷ ys) h = (h.0, zip_map R f xs ys h.1)

-- the first output without a stream is among those not yet looked at
taken_by : (b : Bool) (n : ℕ) (rest : Option ℕ) → b ≡ false → cond b (Some n) rest ≡ rest
taken_by true n rest e = absurd cc
taken_by false n rest e = refl

pub next_taken : {A : Type 0} (view : A → Slave) (infos : List StreamInfo) (xs : List A) (k : ℕ) (x : A) → k < length xs → length (chosen_streams (view (get_or xs k x)) infos) ≢ 0
    → first_without_from k infos (map view (drop k xs)) ≡ first_without_from (k + 1) infos (map view (drop (k + 1) xs))
next_taken {A} view infos xs k x lt some =
    let front : drop k xs ≡ get_or xs k x ∷ drop (k + 1) xs = drop-cons xs k x lt ∙ rw add-one refl in
    ap (λ (zs : List A). first_without_from k infos (map view zs)) front
    ∙ taken_by (length (chosen_streams (view (get_or xs k x)) infos) == 0) k (first_without_from (k + 1) infos (map view (drop (k + 1) xs))) (grind (arith, nat_tests))

-- one of two lists side by side, from its other end
pub record Split {A B : Type 0} (R : A → B → Type 0) (xs : List A) (ys : List B) (y : B) : Type 0 where
  pub front : List A
  pub last : A
  pub split : xs ≡ front ++ last ∷ []
  pub zip : AllZip R front ys
  pub related : R last y

pub zip_split : {A B : Type 0} (R : A → B → Type 0) (xs : List A) (ys : List B) (y : B) → AllZip R xs (ys ++ y ∷ []) → Split R xs ys y
zip_split R [] [] y h = absurd h
zip_split R [] (b ∷ bs) y h = absurd h
zip_split R (x ∷ []) [] y h = record { front = []; last = x; split = refl; zip = tt; related = h.0 }
zip_split R (x ∷ z ∷ xs) [] y h = absurd h.1
zip_split R (x ∷ xs) (b ∷ bs) y h =
    let s = zip_split R xs bs y h.1 in
    record { front = x ∷ s.front; last = s.last; split = ap (λ zs. x ∷ zs) s.split; zip = (h.0, s.zip); related = s.related }

pub zip_among : {A B : Type 0} (R : A → B → Type 0) (xs : List A) (front : List B) (y : B) (back : List B) → AllZip R xs (front ++ y ∷ back) → (x : A) × R x y
zip_among R [] [] y back h = absurd h
zip_among R [] (b ∷ bs) y back h = absurd h
zip_among R (x ∷ xs) [] y back h = (x, h.0)
zip_among R (x ∷ xs) (b ∷ bs) y back h = zip_among R xs bs y back h.1

module _ {S : Type 0} (state : S → ShelfState) (infos : List StreamInfo) (script : Option (List ℕ)) where
  pub seats_more : (ps : List Slave) (xs : List S) (ss : List Seat) (x : S) (rest : List S) (p : Slave) (s : Seat) → AreSeats state infos script ps xs ss (x ∷ rest) → IsSeat p infos script (state x) s
      → AreSeats state infos script (ps ++ p ∷ []) xs (ss ++ s ∷ []) rest
  seats_more [] [] [] x rest p s a is = absurd cc
  seats_more [] (y ∷ ys) [] x rest p s a is =
      let head : x ≡ y = cc in
      let tail : ys ≡ rest = cc in
      (subst (λ (z : S). IsSeat p infos script (state z) s) head is, tail)
  seats_more [] xs (r ∷ ss) x rest p s a is = absurd a
  seats_more (q ∷ ps) [] ss x rest p s a is = absurd a
  seats_more (q ∷ ps) (y ∷ ys) [] x rest p s a is = absurd a
  seats_more (q ∷ ps) (y ∷ ys) (r ∷ ss) x rest p s a is = (a.0, seats_more ps ys ss x rest p s a.1 is)

module _ {S : Type 0} {ghosts : Ghosts S} (state : S → ShelfState) (infos : List StreamInfo) (script : Option (List ℕ)) where
  pub none_open : (plans : List Slave) (shelves : List S) (ts : List (TeeSlave S ghosts)) → AllZip (IsDraft infos script) plans [] → ts ≡ [] → AreOpen state infos script plans shelves ts shelves
  none_open [] shelves ts h e = record { seats = []; are_seats = refl; histories = []; sit = rw e tt }
  none_open (p ∷ ps) shelves ts h e = absurd h

  sit_more : (given : List Packet) (ss : List Seat) (hs : List History) (ts : List (TeeSlave S ghosts)) (s : Seat) (h : History) (t : TeeSlave S ghosts) → AllSit state infos given ss hs ts → Sits state infos given s h t
      → AllSit state infos given (ss ++ s ∷ []) (hs ++ h ∷ []) (ts ++ t ∷ [])
  sit_more given [] [] [] s h t a sits = (sits, tt)
  sit_more given [] [] (x ∷ ts) s h t a sits = absurd a
  sit_more given [] (g ∷ hs) ts s h t a sits = absurd a
  sit_more given (r ∷ ss) [] ts s h t a sits = absurd a
  sit_more given (r ∷ ss) (g ∷ hs) [] s h t a sits = absurd a
  sit_more given (r ∷ ss) (g ∷ hs) (x ∷ ts) s h t a sits = (a.0, sit_more given ss hs ts s h t a.1 sits)

  pub one_open : (plans : List Slave) (xs : List S) (ts : List (TeeSlave S ghosts)) (x : S) (rest : List S) (p : Slave) (t : TeeSlave S ghosts) → AreOpen state infos script plans xs ts (x ∷ rest) → IsOpen state infos script p x t
      → AreOpen state infos script (plans ++ p ∷ []) xs (ts ++ t ∷ []) rest
  one_open plans xs ts x rest p t a o = record {
    seats = a.seats ++ o.seat ∷ [];
    are_seats = seats_more state infos script plans xs a.seats x rest p o.seat a.are_seats o.is_seat;
    histories = a.histories ++ o.history ∷ [];
    sit = sit_more [] a.seats a.histories ts o.seat o.history t a.sit o.sits;
  }

  -- one more draft, and its output
  pub more_open : (plans : List Slave) (drafts : List Draft) (d : Draft) (xs : List S) (ts : List (TeeSlave S ghosts)) (x : S) (shelves rest : List S) (t : TeeSlave S ghosts) → AllZip (IsDraft infos script) plans (drafts ++ d ∷ [])
      → ((ps : List Slave) → AllZip (IsDraft infos script) ps drafts → AreOpen state infos script ps xs ts shelves) → shelves ≡ x ∷ rest
      → ((p : Slave) → IsDraft infos script p d → IsOpen state infos script p x t)
      → AreOpen state infos script plans xs (ts ++ t ∷ []) rest
  more_open plans drafts d xs ts x shelves rest t z before first opened =
      let s = zip_split (IsDraft infos script) plans drafts d z in
      let a = subst (λ (l : List S). AreOpen state infos script s.front xs ts l) first (before s.front s.zip) in
      subst (λ (ps : List Slave). AreOpen state infos script ps xs (ts ++ t ∷ []) rest) (sym s.split) (one_open s.front xs ts x rest s.last t a (opened s.last s.related))
