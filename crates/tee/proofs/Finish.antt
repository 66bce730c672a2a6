-- How all outputs end.
use Rattle.std.proofs.Common.{◌≡◌, ◌+◌, ℕ, List, [], ◌∷◌, ◌++◌, map, Bool, true, false, cond, Option, Some, None, refl, sym, ◌∙◌, inl, inr}
use Rattle.std.specs.Prelude.{◌&&◌, ◌||◌, is_some}
use Rattle.std.specs.List.{AllZip, list_all}
use Rattle.std.proofs.lemmas.Bool.{or_parts}
use Rattle.fifo_core.specs.History.{History}
use Rattle.fifo_core.specs.declared.types.EndState.{EndState}
use Rattle.fifo_core.specs.declared.types.EndState.TheVariants as ends
use Rattle.rmx_edge.specs.Shelf.{ShelfState}
use Rattle.rmx_edge.specs.declared.shelf.Shelf.{Ghosts}
use Rattle.rmx_media.specs.declared.packet.Packet.{Packet}
use Rattle.rmx_media.specs.declared.streams.StreamInfo.{StreamInfo}
use Rattle.slave.specs.End.{IsUnclosed, end_view}
use Rattle.slave.specs.declared.job.SlaveEnd.{SlaveEnd}
use Rattle.tee.specs.Ends.{AllEnded, EndsAll}
use Rattle.tee.specs.Fails.{all_of, any_both, any_want, failed_in, failed_slave, first_failed_from, is_failed, is_want}
use Rattle.tee.specs.Keeps.{Keeps, dead_in, stopped_by}
use Rattle.tee.specs.Seat.{Seat, aborts}
use Rattle.tee.specs.Sits.{AllEndAt, AllSit, EndsAt, Sits, deads, is_dead}
use Rattle.tee.specs.declared.output.TeeSlave.{TeeSlave}
use Rattle.tee.specs.declared.tee.Tee.{Tee}

module _ {S : Type 0} {ghosts : Ghosts S} (state : S → ShelfState) where
  -- that is how an output ends, whatever its seat
  abbrev pub EndsFor : TeeSlave S ghosts → SlaveEnd S → Type 0
  EndsFor t e = (infos : List StreamInfo) (given : List Packet) (s : Seat) (h : History) → Sits state infos given s h t → EndsAt state given s h e

  pub all_end : (infos : List StreamInfo) (given : List Packet) (ss : List Seat) (hs : List History) (ts : List (TeeSlave S ghosts)) (es : List (SlaveEnd S)) → AllSit state infos given ss hs ts → AllZip EndsFor ts es
      → AllEndAt state given ss hs es
  all_end infos given [] [] [] [] a z = tt
  all_end infos given [] [] [] (e ∷ es) a z = absurd z
  all_end infos given [] [] (t ∷ ts) es a z = absurd a
  all_end infos given [] (h ∷ hs) ts es a z = absurd a
  all_end infos given (s ∷ ss) [] ts es a z = absurd a
  all_end infos given (s ∷ ss) (h ∷ hs) [] es a z = absurd a
  all_end infos given (s ∷ ss) (h ∷ hs) (t ∷ ts) [] a z = absurd z
  all_end infos given (s ∷ ss) (h ∷ hs) (t ∷ ts) (e ∷ es) a z = (z.0 infos given s h a.0, all_end infos given ss hs ts es a.1 z.1)

  -- an output among others sits somewhere
  abbrev pub SitsSomewhere : List StreamInfo → List Packet → TeeSlave S ghosts → Type 0
  SitsSomewhere infos given t = (s : Seat) × (h : History) × Sits state infos given s h t

  pub sits_among : (infos : List StreamInfo) (given : List Packet) (ss : List Seat) (hs : List History) (front : List (TeeSlave S ghosts)) (t : TeeSlave S ghosts) (back : List (TeeSlave S ghosts))
      → AllSit state infos given ss hs (front ++ t ∷ back) → SitsSomewhere infos given t
  sits_among infos given [] [] [] t back a = absurd a
  sits_among infos given [] [] (x ∷ front) t back a = absurd a
  sits_among infos given [] (h ∷ hs) [] t back a = absurd a
  sits_among infos given [] (h ∷ hs) (x ∷ front) t back a = absurd a
  sits_among infos given (s ∷ ss) [] [] t back a = absurd a
  sits_among infos given (s ∷ ss) [] (x ∷ front) t back a = absurd a
  sits_among infos given (s ∷ ss) (h ∷ hs) [] t back a = (s, h, a.0)
  sits_among infos given (s ∷ ss) (h ∷ hs) (x ∷ front) t back a = sits_among infos given ss hs front t back a.1

all_ended : {S : Type 0} (state : S → ShelfState) (given : List Packet) (ss : List Seat) (hs : List History) (es : List (SlaveEnd S)) → AllEndAt state given ss hs es → AllEnded ss given hs (map (end_view state) es)
all_ended state given [] [] [] a = tt
all_ended state given [] [] (e ∷ es) a = absurd a
all_ended state given [] (h ∷ hs) [] a = absurd a
all_ended state given [] (h ∷ hs) (e ∷ es) a = absurd a
all_ended state given (s ∷ ss) [] [] a = absurd a
all_ended state given (s ∷ ss) [] (e ∷ es) a = absurd a
all_ended state given (s ∷ ss) (h ∷ hs) [] a = absurd a
all_ended state given (s ∷ ss) (h ∷ hs) (e ∷ es) a = (a.0.ended, all_ended state given ss hs es a.1)

pub ends_all : {S : Type 0} {ghosts : Ghosts S} (state : S → ShelfState) (tee : Tee S ghosts) (seats : List Seat) (given : List Packet) (es : List (SlaveEnd S)) → (k : Keeps state tee seats given)
    → AllEndAt state given seats k.stands.histories es → EndsAll seats given (dead_in tee) (map (end_view state) es)
ends_all state tee seats given es k a = record {
  histories = k.stands.histories;
  each = all_ended state given seats k.stands.histories es a;
  stood = k.stands.watches.stood;
}

-- the end states of outputs that were dead or not
abbrev pub states_of : {S : Type 0} → List (SlaveEnd S) → List EndState
states_of es = map (λ e. e.state) es

pub failed_by : (d : Bool) (st : EndState) → (d ≡ true → IsUnclosed st) → is_want st ≡ false → d ≡ true → is_failed st ≡ true
failed_by d ends.Closed f w e = elim (f e) [ inl h ↦ absurd cc | inr h ↦ absurd cc ]
failed_by d ends.Failed f w e = refl
failed_by d ends.NoMemory f w e = absurd cc

pub found_by : (a f d x : Bool) (n : ℕ) (rest : Option ℕ) → (d ≡ true → f ≡ true) → (x ≡ true → is_some rest ≡ true) → ((a && d) || x) ≡ true → is_some (cond (a && f) (Some n) rest) ≡ true
found_by true true d x n rest g h e = refl
found_by true false true x n rest g h e = absurd (let is = g refl in cc)
found_by true false false x n rest g h e = h e
found_by false f d x n rest g h e = h e

first_found : {S : Type 0} (state : S → ShelfState) (given : List Packet) (n : ℕ) (ss : List Seat) (hs : List History) (es : List (SlaveEnd S)) → AllEndAt state given ss hs es → any_want (states_of es) ≡ false
    → any_both (aborts ss) (deads ss hs) ≡ true → is_some (first_failed_from n (aborts ss) (states_of es)) ≡ true
first_found state given n [] [] [] a w e = absurd cc
first_found state given n [] [] (x ∷ es) a w e = absurd a
first_found state given n [] (h ∷ hs) es a w e = absurd a
first_found state given n (s ∷ ss) [] es a w e = absurd a
first_found state given n (s ∷ ss) (h ∷ hs) [] a w e = absurd a
first_found state given n (s ∷ ss) (h ∷ hs) (x ∷ es) a w e =
    let none = or_parts (is_want x.state) (any_want (states_of es)) w in
    found_by s.slave.abort (is_failed x.state) (is_dead s h) (any_both (aborts ss) (deads ss hs)) n (first_failed_from (n + 1) (aborts ss) (states_of es))
    (failed_by (is_dead s h) x.state a.0.given_up none.0) (first_found state given (n + 1) ss hs es a.1 none.1) e

pub both_by : (d x f y : Bool) → (d ≡ true → f ≡ true) → (x ≡ true → y ≡ true) → (d && x) ≡ true → (f && y) ≡ true
both_by true x true y g h e = h e
both_by true x false y g h e = absurd (let is = g refl in cc)
both_by false x f y g h e = absurd cc

all_failed : {S : Type 0} (state : S → ShelfState) (given : List Packet) (ss : List Seat) (hs : List History) (es : List (SlaveEnd S)) → AllEndAt state given ss hs es → any_want (states_of es) ≡ false
    → all_of (deads ss hs) ≡ true → list_all is_failed (states_of es) ≡ true
all_failed state given [] [] [] a w e = refl
all_failed state given [] [] (x ∷ es) a w e = absurd a
all_failed state given [] (h ∷ hs) es a w e = absurd a
all_failed state given (s ∷ ss) [] es a w e = absurd a
all_failed state given (s ∷ ss) (h ∷ hs) [] a w e = absurd a
all_failed state given (s ∷ ss) (h ∷ hs) (x ∷ es) a w e =
    let none = or_parts (is_want x.state) (any_want (states_of es)) w in
    both_by (is_dead s h) (all_of (deads ss hs)) (is_failed x.state) (list_all is_failed (states_of es)) (failed_by (is_dead s h) x.state a.0.given_up none.0) (all_failed state given ss hs es a.1 none.1) e

pub either_found : (x y : Bool) (found : Option ℕ) (all : Bool) → (x ≡ true → is_some found ≡ true) → (y ≡ true → all ≡ true) → (x || y) ≡ true → is_some (failed_in found all) ≡ true
either_found x y (Some k) all g h e = refl
either_found true y None all g h e = absurd (let is = g refl in cc)
either_found false y None true g h e = refl
either_found false y None false g h e = absurd (let is = h e in cc)

pub over_when : (stopped : Option ℕ) (u : ℕ) → stopped_by stopped u ≡ true → is_some stopped ≡ true
over_when None u e = absurd cc
over_when (Some k) u e = refl

pub fails_some : {S : Type 0} {ghosts : Ghosts S} (state : S → ShelfState) (tee : Tee S ghosts) (seats : List Seat) (given : List Packet) (es : List (SlaveEnd S)) (u : ℕ) → (k : Keeps state tee seats given)
    → AllEndAt state given seats k.stands.histories es → dead_in tee u ≡ true → any_want (states_of es) ≡ false → is_some (failed_slave (aborts seats) (states_of es)) ≡ true
fails_some state tee seats given es u k a dead w =
    let hs = k.stands.histories in
    either_found (any_both (aborts seats) (deads seats hs)) (all_of (deads seats hs)) (first_failed_from 0 (aborts seats) (states_of es)) (list_all is_failed (states_of es))
    (first_found state given 0 seats hs es a w) (all_failed state given seats hs es a w)
    (sym k.stands.watches.now ∙ over_when tee.stopped u dead)
