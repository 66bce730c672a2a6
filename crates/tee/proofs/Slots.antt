-- Outputs that get a packet one after another.
use Rattle.std.proofs.Common.{◌≡◌, ◌<◌, ◌≤◌, ◌+◌, ℕ, zero, suc, List, [], ◌∷◌, ◌++◌, length, get_or, set, take, drop, take-suc, add-one, append-nil, refl, sym, ◌∙◌, ap, subst, arith, ◌*◌, Fits, w64}
use Rattle.std.specs.List.{AllZip}
use Rattle.std.proofs.Math.ListN.{drop_of_length-le}
use Rattle.std.proofs.lemmas.List.{length-take-le, take_all}
use Rattle.fifo_core.specs.History.{History}
use Rattle.rmx_edge.specs.Shelf.{ShelfState}
use Rattle.rmx_edge.specs.declared.shelf.Shelf.{Ghosts}
use Rattle.rmx_media.specs.declared.packet.Packet.{Packet}
use Rattle.rmx_media.specs.declared.streams.StreamInfo.{StreamInfo}
use Rattle.rmx_media.specs.Streams.{AreInfos}
use Rattle.tee.specs.Route.{IsPlaced, IsFiltered, AllFiltered, written}
use Rattle.tee.specs.Seat.{Seat, IsInput}
use Rattle.tee.specs.Sits.{Sits, SitsOn, AllSit, AllSitOn}
use Rattle.tee.specs.declared.filter.Filtered.{Filtered}
use Rattle.tee.specs.declared.output.TeeSlave.{TeeSlave}

-- that is what an output writes of a packet, whatever its seat
abbrev pub IsFor : {S : Type 0} {ghosts : Ghosts S} → Packet → TeeSlave S ghosts → Filtered → Type 0
IsFor p slave f = (infos : List StreamInfo) (seat : Seat) → AreInfos infos → IsPlaced infos seat slave.choice → IsInput infos p → IsFiltered seat p (written p f)

pub zip_append : {A B : Type 0} (R : A → B → Type 0) (xs : List A) (ys : List B) (x : A) (y : B) → AllZip R xs ys → R x y → AllZip R (xs ++ x ∷ []) (ys ++ y ∷ [])
zip_append R [] [] x y h r = (r, tt)
zip_append R [] (b ∷ bs) x y h r = absurd h
zip_append R (a ∷ more) [] x y h r = absurd h
zip_append R (a ∷ more) (b ∷ bs) x y h r = (h.0, zip_append R more bs x y h.1 r)

pub zip_length : {A B : Type 0} (R : A → B → Type 0) (xs : List A) (ys : List B) → AllZip R xs ys → length ys ≡ length xs
zip_length R [] [] h = refl
zip_length R [] (b ∷ bs) h = absurd h
zip_length R (a ∷ more) [] h = absurd h
zip_length R (a ∷ more) (b ∷ bs) h = let r = zip_length R more bs h.1 in omega arith

pub zip_take : {A B : Type 0} (R : A → B → Type 0) (xs : List A) (ys : List B) (k : ℕ) → k ≤ length xs → AllZip R (take k xs) ys → length ys ≡ k
zip_take R xs ys k le h = zip_length R (take k xs) ys h ∙ length-take-le k xs le

pub zip_next : {A B : Type 0} (R : A → B → Type 0) (xs : List A) (ys : List B) (k : ℕ) (x : A) (y : B) → k < length xs → x ≡ get_or xs k x → AllZip R (take k xs) ys → R x y
    → AllZip R (take (k + 1) xs) (ys ++ y ∷ [])
zip_next {A} {B} R xs ys k x y lt is h r =
    let front : take (k + 1) xs ≡ take k xs ++ x ∷ [] = rw add-one (take-suc xs k x lt ∙ ap (λ (z : A). take k xs ++ z ∷ []) (sym is)) in
    subst (λ (zs : List A). AllZip R zs (ys ++ y ∷ [])) (sym front) (zip_append R (take k xs) ys x y h r)

pub zip_all : {A B : Type 0} (R : A → B → Type 0) (xs : List A) (ys : List B) (k : ℕ) → length xs ≤ k → AllZip R (take k xs) ys → AllZip R xs ys
zip_all {A} R xs ys k le h = subst (λ (zs : List A). AllZip R zs ys) (take_all k xs le) h

-- the place of one of a few
pub offset_fits : (n : ℕ) → n < 16 → Fits w64 (n * 136)
offset_fits n lt = omega arith

-- a list that was written whole
pub written_whole : {A : Type 0} (n : ℕ) (new old : List A) → length new ≡ n → length old ≡ n → take n (new ++ drop (length new) old) ≡ new
written_whole {A} n new old e f =
    let gone : drop (length new) old ≡ [] = drop_of_length-le old (omega arith) in
    ap (λ (xs : List A). take n (new ++ xs)) gone ∙ ap (λ (xs : List A). take n xs) (append-nil new) ∙ take_all n new (omega arith)

module _ {S : Type 0} {ghosts : Ghosts S} (state : S → ShelfState) (infos : List StreamInfo) (given : List Packet) (p : Packet) where
  pub all_filtered : (ss : List Seat) (hs : List History) (ts : List (TeeSlave S ghosts)) (fs : List Filtered) → AreInfos infos → IsInput infos p
      → AllSit state infos given ss hs ts → AllZip (IsFor p) ts fs → AllFiltered ss p fs
  all_filtered [] [] [] [] are i a z = tt
  all_filtered [] [] [] (f ∷ fs) are i a z = absurd z
  all_filtered [] [] (t ∷ ts) fs are i a z = absurd a
  all_filtered [] (h ∷ hs) ts fs are i a z = absurd a
  all_filtered (s ∷ ss) [] ts fs are i a z = absurd a
  all_filtered (s ∷ ss) (h ∷ hs) [] fs are i a z = absurd a
  all_filtered (s ∷ ss) (h ∷ hs) (t ∷ ts) [] are i a z = absurd z
  all_filtered (s ∷ ss) (h ∷ hs) (t ∷ ts) (f ∷ fs) are i a z = (z.0 infos s are a.0.placed i, all_filtered ss hs ts fs are i a.1 z.1)

  pub as_many : (ss : List Seat) (hs : List History) (ts : List (TeeSlave S ghosts)) (fs : List Filtered) → AllSit state infos given ss hs ts → AllFiltered ss p fs → length fs ≡ length ts
  as_many [] [] [] [] a f = refl
  as_many [] [] [] (x ∷ fs) a f = absurd f
  as_many [] [] (t ∷ ts) fs a f = absurd a
  as_many [] (h ∷ hs) ts fs a f = absurd a
  as_many (s ∷ ss) [] ts fs a f = absurd a
  as_many (s ∷ ss) (h ∷ hs) [] fs a f = absurd a
  as_many (s ∷ ss) (h ∷ hs) (t ∷ ts) [] a f = absurd f
  as_many (s ∷ ss) (h ∷ hs) (t ∷ ts) (x ∷ fs) a f = let r = as_many ss hs ts fs a.1 f.1 in omega arith

  -- the first k outputs got the packet, the others didn't yet
  abbrev pub Between : ℕ → List Seat → List History → List (TeeSlave S ghosts) → Type 0
  Between zero ss hs ts = AllSit state infos given ss hs ts
  Between (suc k) [] [] [] = Unit {0}
  Between (suc k) (s ∷ ss) (h ∷ hs) (t ∷ ts) = SitsOn state infos (given ++ p ∷ []) s h t × Between k ss hs ts
  Between (suc k) [] [] (t ∷ ts) = ⊥
  Between (suc k) [] (h ∷ hs) ts = ⊥
  Between (suc k) (s ∷ ss) [] ts = ⊥
  Between (suc k) (s ∷ ss) (h ∷ hs) [] = ⊥

  -- the next output and what it writes
  abbrev pub Next : TeeSlave S ghosts → Filtered → Type 0
  Next t f = (s : Seat) × (h : History) × Sits state infos given s h t × IsFiltered s p (written p f)

  all_at : (ss : List Seat) (hs : List History) (ts : List (TeeSlave S ghosts)) (fs : List Filtered) (k : ℕ) (d : TeeSlave S ghosts) (e : Filtered)
      → AllSit state infos given ss hs ts → AllFiltered ss p fs → k < length ts → Next (get_or ts k d) (get_or fs k e)
  all_at [] [] [] fs k d e a f lt = absurd (omega arith)
  all_at [] [] (t ∷ ts) fs k d e a f lt = absurd a
  all_at [] (h ∷ hs) ts fs k d e a f lt = absurd a
  all_at (s ∷ ss) [] ts fs k d e a f lt = absurd a
  all_at (s ∷ ss) (h ∷ hs) [] fs k d e a f lt = absurd a
  all_at (s ∷ ss) (h ∷ hs) (t ∷ ts) [] k d e a f lt = absurd f
  all_at (s ∷ ss) (h ∷ hs) (t ∷ ts) (x ∷ fs) zero d e a f lt = (s, h, a.0, f.0)
  all_at (s ∷ ss) (h ∷ hs) (t ∷ ts) (x ∷ fs) (suc k) d e a f lt = all_at ss hs ts fs k d e a.1 f.1 (omega arith)

  pub next_at : (ss : List Seat) (hs : List History) (ts : List (TeeSlave S ghosts)) (fs : List Filtered) (k : ℕ) (d : TeeSlave S ghosts) (e : Filtered)
      → Between k ss hs ts → AllFiltered ss p fs → k < length ts → Next (get_or ts k d) (get_or fs k e)
  next_at ss hs ts fs zero d e b f lt = all_at ss hs ts fs zero d e b f lt
  next_at [] [] [] fs (suc k) d e b f lt = absurd (omega arith)
  next_at [] [] (t ∷ ts) fs (suc k) d e b f lt = absurd b
  next_at [] (h ∷ hs) ts fs (suc k) d e b f lt = absurd b
  next_at (s ∷ ss) [] ts fs (suc k) d e b f lt = absurd b
  next_at (s ∷ ss) (h ∷ hs) [] fs (suc k) d e b f lt = absurd b
  next_at (s ∷ ss) (h ∷ hs) (t ∷ ts) [] (suc k) d e b f lt = absurd f
  next_at (s ∷ ss) (h ∷ hs) (t ∷ ts) (x ∷ fs) (suc k) d e b f lt = next_at ss hs ts fs k d e b.1 f.1 (omega arith)

  -- the next output got it
  abbrev pub Given : TeeSlave S ghosts → Filtered → TeeSlave S ghosts → Type 0
  Given t f new = (s : Seat) (h : History) → Sits state infos given s h t → IsFiltered s p (written p f) → SitsOn state infos (given ++ p ∷ []) s h new

  pub next_set : (ss : List Seat) (hs : List History) (ts : List (TeeSlave S ghosts)) (fs : List Filtered) (k : ℕ) (d new : TeeSlave S ghosts) (e : Filtered)
      → Between k ss hs ts → AllFiltered ss p fs → k < length ts → Given (get_or ts k d) (get_or fs k e) new → Between (suc k) ss hs (set ts k new)
  next_set [] [] [] fs k d new e b f lt g = absurd (omega arith)
  next_set [] [] (t ∷ ts) fs zero d new e b f lt g = absurd b
  next_set [] [] (t ∷ ts) fs (suc k) d new e b f lt g = absurd b
  next_set [] (h ∷ hs) ts fs zero d new e b f lt g = absurd b
  next_set [] (h ∷ hs) ts fs (suc k) d new e b f lt g = absurd b
  next_set (s ∷ ss) [] ts fs zero d new e b f lt g = absurd b
  next_set (s ∷ ss) [] ts fs (suc k) d new e b f lt g = absurd b
  next_set (s ∷ ss) (h ∷ hs) [] fs k d new e b f lt g = absurd (omega arith)
  next_set (s ∷ ss) (h ∷ hs) (t ∷ ts) [] k d new e b f lt g = absurd f
  next_set (s ∷ ss) (h ∷ hs) (t ∷ ts) (x ∷ fs) zero d new e b f lt g = (g s h b.0 f.0, b.1)
  next_set (s ∷ ss) (h ∷ hs) (t ∷ ts) (x ∷ fs) (suc k) d new e b f lt g = (b.0, next_set ss hs ts fs k d new e b.1 f.1 (omega arith) g)

  pub all_done : (ss : List Seat) (hs : List History) (ts : List (TeeSlave S ghosts)) (k : ℕ) → Between k ss hs ts → k ≡ length ts → AllSitOn state infos (given ++ p ∷ []) ss hs ts
  all_done [] [] [] k b same = tt
  all_done [] [] (t ∷ ts) zero b same = absurd b
  all_done [] [] (t ∷ ts) (suc k) b same = absurd b
  all_done [] (h ∷ hs) ts zero b same = absurd b
  all_done [] (h ∷ hs) ts (suc k) b same = absurd b
  all_done (s ∷ ss) [] ts zero b same = absurd b
  all_done (s ∷ ss) [] ts (suc k) b same = absurd b
  all_done (s ∷ ss) (h ∷ hs) [] zero b same = absurd b
  all_done (s ∷ ss) (h ∷ hs) [] (suc k) b same = absurd b
  all_done (s ∷ ss) (h ∷ hs) (t ∷ ts) zero b same = absurd (omega arith)
  all_done (s ∷ ss) (h ∷ hs) (t ∷ ts) (suc k) b same = (b.0, all_done ss hs ts k b.1 (omega arith))

  pub next_here : (ss : List Seat) (hs : List History) (ts : List (TeeSlave S ghosts)) (fs : List Filtered) (k : ℕ) (t : TeeSlave S ghosts) (x : Filtered)
      → Between k ss hs ts → AllFiltered ss p fs → k < length ts → x ≡ get_or fs k x → Next (get_or ts k t) x
  next_here ss hs ts fs k t x b f lt g = subst (λ (z : Filtered). Next (get_or ts k t) z) (sym g) (next_at ss hs ts fs k t x b f lt)

  pub set_here : (ss : List Seat) (hs : List History) (ts : List (TeeSlave S ghosts)) (fs : List Filtered) (k : ℕ) (t new : TeeSlave S ghosts) (x : Filtered)
      → Between k ss hs ts → AllFiltered ss p fs → k < length ts → x ≡ get_or fs k x → Given (get_or ts k t) x new → Between (suc k) ss hs (set ts k new)
  set_here ss hs ts fs k t new x b f lt g given_now =
      next_set ss hs ts fs k t new x b f lt (subst (λ (z : Filtered). Given (get_or ts k t) z new) g given_now)
