-- Whether an output that aborts, or every one, was given up.
use Rattle.std.proofs.Common.{◌≡◌, ◌<◌, ◌+◌, ℕ, List, [], ◌∷◌, length, drop, drop-cons, get_or, add-one, Bool, true, false, refl, sym, ◌∙◌, ap, subst}
use Rattle.std.specs.Prelude.{◌&&◌, ◌||◌}
use Rattle.fifo_core.specs.History.{History, mode_of, mode_is_dead}
use Rattle.rmx_edge.specs.Shelf.{ShelfState}
use Rattle.rmx_edge.specs.declared.shelf.Shelf.{Ghosts}
use Rattle.rmx_media.specs.declared.packet.Packet.{Packet}
use Rattle.rmx_media.specs.declared.streams.StreamInfo.{StreamInfo}
use Rattle.slave.specs.Job.{view_of}
use Rattle.slave.specs.Origin.{Origin}
use Rattle.slave.specs.Table.{Keeps}
use Rattle.fifo_core.specs.declared.types.FifoOptions.{FifoOptions}
use Rattle.tee.specs.Fails.{any_both, all_of, stops}
use Rattle.tee.specs.Seat.{Seat, aborts, chosen}
use Rattle.tee.specs.Sits.{Sits, AllSit, deads, is_dead}
use Rattle.tee.specs.declared.output.TeeSlave.{TeeSlave}

-- one that lives
pub alive_by : (a any all more dead : Bool) → dead ≡ false → ((a && dead) || any || (all && (dead && more))) ≡ (any || (false && more))
alive_by a any all more true e = absurd cc
alive_by true true all more false e = refl
alive_by true false true more false e = refl
alive_by true false false more false e = refl
alive_by false true all more false e = refl
alive_by false false true more false e = refl
alive_by false false false more false e = refl

-- one that is given up and doesn't abort
pub dead_by : (a any all more dead : Bool) → dead ≡ true → a ≡ false → ((a && dead) || any || (all && (dead && more))) ≡ (any || (all && more))
dead_by true any all more dead d e = absurd cc
dead_by false any all more false d e = absurd cc
dead_by false true all more true d e = refl
dead_by false false true more true d e = refl
dead_by false false false more true d e = refl

pub over_by : (a any all more dead : Bool) → dead ≡ true → a ≡ true → ((a && dead) || any || (all && (dead && more))) ≡ true
over_by false any all more dead d e = absurd cc
over_by true any all more false d e = absurd cc
over_by true any all more true d e = refl

abbrev Left : List Seat → List History → Bool → Bool
Left ss hs all = any_both (aborts ss) (deads ss hs) || (all && all_of (deads ss hs))

module _ {S : Type 0} {ghosts : Ghosts S} (state : S → ShelfState) (infos : List StreamInfo) (given : List Packet) where
  -- these outputs are left to be asked, and all asked before were given up or not
  pub record StillTo (seats : List Seat) (histories : List History) (all : Bool) (rest : List (TeeSlave S ghosts)) : Type 0 where
    pub seats_left : List Seat
    pub histories_left : List History
    pub sit : AllSit state infos given seats_left histories_left rest
    pub same : stops (aborts seats) (deads seats histories) ≡ (any_both (aborts seats_left) (deads seats_left histories_left) || (all && all_of (deads seats_left histories_left)))

  -- what an output that is asked says, whatever its seat
  abbrev pub Says : TeeSlave S ghosts → Bool → Type 0
  Says t dead = (g : Origin) (o : FifoOptions) (L : List Packet) (k : Keeps g o L (view_of state t.job)) → dead ≡ mode_is_dead (mode_of o k.history)

  says_at : (s : Seat) (h : History) (t : TeeSlave S ghosts) (dead : Bool) → Sits state infos given s h t → Says t dead → is_dead s h ≡ dead
  says_at s h t dead sits says = ap (λ (x : History). is_dead s x) (sym sits.history_is) ∙ sym (says s.origin s.slave.fifo (chosen s given) sits.keeps)

  lives_from : (seats ss : List Seat) (histories hs : List History) (all : Bool) (t : TeeSlave S ghosts) (rest : List (TeeSlave S ghosts)) → AllSit state infos given ss hs (t ∷ rest)
      → stops (aborts seats) (deads seats histories) ≡ Left ss hs all → Says t false → StillTo seats histories false rest
  lives_from seats [] histories [] all t rest a e says = absurd a
  lives_from seats [] histories (h ∷ hs) all t rest a e says = absurd a
  lives_from seats (s ∷ ss) histories [] all t rest a e says = absurd a
  lives_from seats (s ∷ ss) histories (h ∷ hs) all t rest a e says = record {
    seats_left = ss;
    histories_left = hs;
    sit = a.1;
    same = e ∙ alive_by s.slave.abort (any_both (aborts ss) (deads ss hs)) all (all_of (deads ss hs)) (is_dead s h) (says_at s h t false a.0 says);
  }

  pub next_lives : (ss : List Seat) (hs : List History) (all : Bool) (t : TeeSlave S ghosts) (rest : List (TeeSlave S ghosts)) → StillTo ss hs all (t ∷ rest) → Says t false → StillTo ss hs false rest
  next_lives ss hs all t rest st says = lives_from ss st.seats_left hs st.histories_left all t rest st.sit st.same says

  dead_from : (seats ss : List Seat) (histories hs : List History) (all : Bool) (t : TeeSlave S ghosts) (rest : List (TeeSlave S ghosts)) → AllSit state infos given ss hs (t ∷ rest)
      → stops (aborts seats) (deads seats histories) ≡ Left ss hs all → Says t true → t.choice.abort ≡ false → StillTo seats histories all rest
  dead_from seats [] histories [] all t rest a e says quiet = absurd a
  dead_from seats [] histories (h ∷ hs) all t rest a e says quiet = absurd a
  dead_from seats (s ∷ ss) histories [] all t rest a e says quiet = absurd a
  dead_from seats (s ∷ ss) histories (h ∷ hs) all t rest a e says quiet = record {
    seats_left = ss;
    histories_left = hs;
    sit = a.1;
    same = e ∙ dead_by s.slave.abort (any_both (aborts ss) (deads ss hs)) all (all_of (deads ss hs)) (is_dead s h) (says_at s h t true a.0 says) (sym a.0.placed.abort ∙ quiet);
  }

  pub next_dead : (ss : List Seat) (hs : List History) (all : Bool) (t : TeeSlave S ghosts) (rest : List (TeeSlave S ghosts)) → StillTo ss hs all (t ∷ rest) → Says t true → t.choice.abort ≡ false → StillTo ss hs all rest
  next_dead ss hs all t rest st says quiet = dead_from ss st.seats_left hs st.histories_left all t rest st.sit st.same says quiet

  aborts_from : (seats ss : List Seat) (histories hs : List History) (all : Bool) (t : TeeSlave S ghosts) (rest : List (TeeSlave S ghosts)) → AllSit state infos given ss hs (t ∷ rest)
      → stops (aborts seats) (deads seats histories) ≡ Left ss hs all → Says t true → t.choice.abort ≡ true → true ≡ stops (aborts seats) (deads seats histories)
  aborts_from seats [] histories [] all t rest a e says loud = absurd a
  aborts_from seats [] histories (h ∷ hs) all t rest a e says loud = absurd a
  aborts_from seats (s ∷ ss) histories [] all t rest a e says loud = absurd a
  aborts_from seats (s ∷ ss) histories (h ∷ hs) all t rest a e says loud =
      sym (e ∙ over_by s.slave.abort (any_both (aborts ss) (deads ss hs)) all (all_of (deads ss hs)) (is_dead s h) (says_at s h t true a.0 says) (sym a.0.placed.abort ∙ loud))

  pub next_aborts : (ss : List Seat) (hs : List History) (all : Bool) (t : TeeSlave S ghosts) (rest : List (TeeSlave S ghosts)) → StillTo ss hs all (t ∷ rest) → Says t true → t.choice.abort ≡ true
      → true ≡ stops (aborts ss) (deads ss hs)
  next_aborts ss hs all t rest st says loud = aborts_from ss st.seats_left hs st.histories_left all t rest st.sit st.same says loud

  none_left : (seats ss : List Seat) (histories hs : List History) (all : Bool) (rest : List (TeeSlave S ghosts)) → rest ≡ [] → AllSit state infos given ss hs rest
      → stops (aborts seats) (deads seats histories) ≡ Left ss hs all → all ≡ stops (aborts seats) (deads seats histories)
  none_left seats ss histories hs all (t ∷ rest) n a e = absurd cc
  none_left seats [] histories [] true [] n a e = sym e
  none_left seats [] histories [] false [] n a e = sym e
  none_left seats [] histories (h ∷ hs) all [] n a e = absurd a
  none_left seats (s ∷ ss) histories [] all [] n a e = absurd a
  none_left seats (s ∷ ss) histories (h ∷ hs) all [] n a e = absurd a

  pub all_asked : (ss : List Seat) (hs : List History) (all : Bool) (rest : List (TeeSlave S ghosts)) → StillTo ss hs all rest → rest ≡ [] → all ≡ stops (aborts ss) (deads ss hs)
  all_asked ss hs all rest st e = none_left ss st.seats_left hs st.histories_left all rest e st.sit st.same

  pub step_at : (ss : List Seat) (hs : List History) (all : Bool) (ts : List (TeeSlave S ghosts)) (k : ℕ) (d : TeeSlave S ghosts) → StillTo ss hs all (drop k ts) → k < length ts → d ≡ get_or ts k d
      → StillTo ss hs all (d ∷ drop (k + 1) ts)
  step_at ss hs all ts k d st lt is =
      let front : drop k ts ≡ d ∷ drop (k + 1) ts = drop-cons ts k d lt ∙ rw (← is, add-one) refl in
      subst (λ (rest : List (TeeSlave S ghosts)). StillTo ss hs all rest) front st
