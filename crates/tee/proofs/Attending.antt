-- The outputs of a run, one after another.
use Rattle.std.proofs.Common.{◌≡◌, ◌<◌, ◌+◌, ℕ, suc, List, [], ◌∷◌, ◌++◌, length, drop, drop-cons, get_or, add-one, Bool, true, false, Option, Some, None, refl, sym, ◌∙◌, ap, subst, inl, inr}
use Rattle.std.specs.Prelude.{◌&&◌, ◌||◌}
use Rattle.fifo_core.specs.History.{History, mode_of, mode_is_dead}
use Rattle.fifo_core.specs.declared.types.FifoOptions.{FifoOptions}
use Rattle.rmx_edge.specs.Shelf.{ShelfState}
use Rattle.rmx_edge.specs.declared.shelf.Shelf.{Ghosts}
use Rattle.rmx_media.specs.declared.packet.Packet.{Packet}
use Rattle.rmx_media.specs.declared.streams.StreamInfo.{StreamInfo}
use Rattle.slave.specs.Job.{view_of}
use Rattle.slave.specs.Origin.{Origin}
use Rattle.slave.specs.Table.{Keeps}
use Rattle.tee.specs.Attends.{Attends, AttendsOn, IsStarted, choice_of}
use Rattle.tee.specs.Each.{Each3}
use Rattle.tee.specs.Fails.{any_both, all_of, stops}
use Rattle.tee.specs.Route.{IsPlaced}
use Rattle.tee.specs.Rides.{Rides, SameEnd}
use Rattle.tee.specs.Seat.{Seat, aborts, chosen}
use Rattle.tee.specs.Sits.{Sits, SitsOn, is_dead}
use Rattle.tee.specs.Tracks.{Track, Here, There, StoodOn, ToldBy, TrackGoesOn, known_dead, known_deads}
use Rattle.tee.specs.declared.output.TeeSlave.{TeeSlave}
use Rattle.slave.specs.Task.{Task}
use Rattle.tee.specs.declared.sender.Sender.{Sender}
use Rattle.tee.specs.declared.filter.Filtered.{Filtered}
use Rattle.tee.specs.declared.outlet.Outlet.{Outlet}
use Rattle.tee.specs.declared.outlet.Outlet.TheVariants as outlet
use Rattle.tee.proofs.Over.{alive_by, dead_by, over_by}
use Rattle.tee.proofs.Watching.{known_now, stands_now}

-- a track that goes on twice goes on
told_twice : (n : ℕ) (a b c : Option ℕ) → ToldBy n a b → ToldBy n b c → ToldBy n a c
told_twice n a b c x y = elim x [
  | inl same ↦ elim y [
    | inl still ↦ inl (still ∙ same)
    | inr new ↦ inr (sym same ∙ new.0, new.1)
  ]
  | inr new ↦ elim y [
    | inl still ↦ inr (new.0, still ∙ new.1)
    | inr twice ↦ absurd (let e : Some n ≡ None = sym new.1 ∙ twice.0 in cc)
  ]
]

pub track_twice : (n : ℕ) (s : Seat) (a b c : Track) → TrackGoesOn n s a b → TrackGoesOn n s b c → TrackGoesOn n s a c
track_twice n s (Here h) (Here k) (Here l) x y = record {
  later = y.later ++ x.later;
  goes_on = y.goes_on ∙ ap (λ (g : History). y.later ++ g) x.goes_on ∙ sym (Rattle.std.proofs.Common.append_assoc y.later x.later h);
  stays_dead = λ d. y.stays_dead (x.stays_dead d);
}
track_twice n s (Here h) (Here k) (There told) x y = absurd y
track_twice n s (Here h) (There told) c x y = absurd x
track_twice n s (There told) (Here k) c x y = absurd x
track_twice n s (There told) (There now) (Here l) x y = absurd y
track_twice n s (There told) (There now) (There then) x y = told_twice n told now then x y

abbrev Left : List Seat → List Track → Bool → Bool
Left ss ts all = any_both (aborts ss) (known_deads ss ts) || (all && all_of (known_deads ss ts))

-- what a job says of itself
abbrev pub JobSays : {S : Type 0} {ghosts : Ghosts S} → (S → ShelfState) → TeeSlave S ghosts → Bool → Type 0
JobSays state slave dead = (g : Origin) (o : FifoOptions) (L : List Packet) (k : Keeps g o L (view_of state slave.job)) → dead ≡ mode_is_dead (mode_of o k.history)

module _ {S G : Type 0} {ghosts : Ghosts S} (state : S → ShelfState) (infos : List StreamInfo) (given : List Packet) (asked : ℕ) where
  pub placed_at : (s : Seat) (t : Track) (o : Outlet S G ghosts) → Attends state infos given asked false s t o → IsPlaced infos s (choice_of o)
  placed_at s (Here h) (outlet.Here slave inline left) a = a.0.placed
  placed_at s (Here h) (outlet.There sender running) a = absurd a
  placed_at s (There told) (outlet.Here slave inline left) a = absurd a
  placed_at s (There told) (outlet.There sender running) a = a.0.placed

  -- these outputs are left to be asked, and all asked before were given up or not
  pub record LeftTo (seats : List Seat) (tracks : List Track) (all : Bool) (rest : List (Outlet S G ghosts)) : Type 0 where
    pub seats_left : List Seat
    pub tracks_left : List Track
    pub attend : Each3 (Attends state infos given asked false) seats_left tracks_left rest
    pub same : stops (aborts seats) (known_deads seats tracks) ≡ Left seats_left tracks_left all

  -- what an output that is asked says, whatever its seat
  abbrev pub Says : Outlet S G ghosts → Bool → Type 0
  Says o dead = (infos : List StreamInfo) (given : List Packet) (asked : ℕ) (seat : Seat) (track : Track) → Attends state infos given asked false seat track o → dead ≡ known_dead seat track

  abbrev pub SaysAbort : Outlet S G ghosts → Bool → Type 0
  SaysAbort o loud = (infos : List StreamInfo) (seat : Seat) → IsPlaced infos seat (choice_of o) → loud ≡ seat.slave.abort

  lives_from : (seats ss : List Seat) (tracks ts : List Track) (all : Bool) (o : Outlet S G ghosts) (rest : List (Outlet S G ghosts)) → Each3 (Attends state infos given asked false) ss ts (o ∷ rest)
      → stops (aborts seats) (known_deads seats tracks) ≡ Left ss ts all → Says o false → LeftTo seats tracks false rest
  lives_from seats [] tracks [] all o rest a e says = absurd a
  lives_from seats [] tracks (t ∷ ts) all o rest a e says = absurd a
  lives_from seats (s ∷ ss) tracks [] all o rest a e says = absurd a
  lives_from seats (s ∷ ss) tracks (t ∷ ts) all o rest a e says = record {
    seats_left = ss;
    tracks_left = ts;
    attend = a.1;
    same = e ∙ alive_by s.slave.abort (any_both (aborts ss) (known_deads ss ts)) all (all_of (known_deads ss ts)) (known_dead s t) (sym (says infos given asked s t a.0));
  }

  pub next_lives : (ss : List Seat) (ts : List Track) (all : Bool) (o : Outlet S G ghosts) (rest : List (Outlet S G ghosts)) → LeftTo ss ts all (o ∷ rest) → Says o false → LeftTo ss ts false rest
  next_lives ss ts all o rest st says = lives_from ss st.seats_left ts st.tracks_left all o rest st.attend st.same says

  dead_from : (seats ss : List Seat) (tracks ts : List Track) (all : Bool) (o : Outlet S G ghosts) (rest : List (Outlet S G ghosts)) → Each3 (Attends state infos given asked false) ss ts (o ∷ rest)
      → stops (aborts seats) (known_deads seats tracks) ≡ Left ss ts all → Says o true → SaysAbort o false → LeftTo seats tracks all rest
  dead_from seats [] tracks [] all o rest a e says quiet = absurd a
  dead_from seats [] tracks (t ∷ ts) all o rest a e says quiet = absurd a
  dead_from seats (s ∷ ss) tracks [] all o rest a e says quiet = absurd a
  dead_from seats (s ∷ ss) tracks (t ∷ ts) all o rest a e says quiet = record {
    seats_left = ss;
    tracks_left = ts;
    attend = a.1;
    same = e ∙ dead_by s.slave.abort (any_both (aborts ss) (known_deads ss ts)) all (all_of (known_deads ss ts)) (known_dead s t) (sym (says infos given asked s t a.0))
        (sym (quiet infos s (placed_at s t o a.0)));
  }

  pub next_dead : (ss : List Seat) (ts : List Track) (all : Bool) (o : Outlet S G ghosts) (rest : List (Outlet S G ghosts)) → LeftTo ss ts all (o ∷ rest) → Says o true → SaysAbort o false → LeftTo ss ts all rest
  next_dead ss ts all o rest st says quiet = dead_from ss st.seats_left ts st.tracks_left all o rest st.attend st.same says quiet

  aborts_from : (seats ss : List Seat) (tracks ts : List Track) (all : Bool) (o : Outlet S G ghosts) (rest : List (Outlet S G ghosts)) → Each3 (Attends state infos given asked false) ss ts (o ∷ rest)
      → stops (aborts seats) (known_deads seats tracks) ≡ Left ss ts all → Says o true → SaysAbort o true → true ≡ stops (aborts seats) (known_deads seats tracks)
  aborts_from seats [] tracks [] all o rest a e says loud = absurd a
  aborts_from seats [] tracks (t ∷ ts) all o rest a e says loud = absurd a
  aborts_from seats (s ∷ ss) tracks [] all o rest a e says loud = absurd a
  aborts_from seats (s ∷ ss) tracks (t ∷ ts) all o rest a e says loud =
      sym (e ∙ over_by s.slave.abort (any_both (aborts ss) (known_deads ss ts)) all (all_of (known_deads ss ts)) (known_dead s t) (sym (says infos given asked s t a.0))
      (sym (loud infos s (placed_at s t o a.0))))

  pub next_aborts : (ss : List Seat) (ts : List Track) (all : Bool) (o : Outlet S G ghosts) (rest : List (Outlet S G ghosts)) → LeftTo ss ts all (o ∷ rest) → Says o true → SaysAbort o true
      → true ≡ stops (aborts ss) (known_deads ss ts)
  next_aborts ss ts all o rest st says loud = aborts_from ss st.seats_left ts st.tracks_left all o rest st.attend st.same says loud

  none_left : (seats ss : List Seat) (tracks ts : List Track) (all : Bool) (rest : List (Outlet S G ghosts)) → rest ≡ [] → Each3 (Attends state infos given asked false) ss ts rest
      → stops (aborts seats) (known_deads seats tracks) ≡ Left ss ts all → all ≡ stops (aborts seats) (known_deads seats tracks)
  none_left seats ss tracks ts all (o ∷ rest) n a e = absurd cc
  none_left seats [] tracks [] true [] n a e = sym e
  none_left seats [] tracks [] false [] n a e = sym e
  none_left seats [] tracks (t ∷ ts) all [] n a e = absurd a
  none_left seats (s ∷ ss) tracks [] all [] n a e = absurd a
  none_left seats (s ∷ ss) tracks (t ∷ ts) all [] n a e = absurd a

  pub all_asked : (ss : List Seat) (ts : List Track) (all : Bool) (rest : List (Outlet S G ghosts)) → LeftTo ss ts all rest → rest ≡ [] → all ≡ stops (aborts ss) (known_deads ss ts)
  all_asked ss ts all rest st n = none_left ss st.seats_left ts st.tracks_left all rest n st.attend st.same

  pub step_at : (ss : List Seat) (ts : List Track) (all : Bool) (os : List (Outlet S G ghosts)) (k : ℕ) (o : Outlet S G ghosts) → LeftTo ss ts all (drop k os) → k < length os → o ≡ get_or os k o
      → LeftTo ss ts all (o ∷ drop (k + 1) os)
  step_at ss ts all os k o st lt is =
      let next : drop k os ≡ o ∷ drop (k + 1) os = rw add-one (drop-cons os k o lt ∙ ap (λ (x : Outlet S G ghosts). x ∷ drop (suc k) os) (sym is)) in
      subst (λ (rest : List (Outlet S G ghosts)). LeftTo ss ts all rest) next st

pub here_says : {S : Type 0} {ghosts : Ghosts S} (G : Type 0) (state : S → ShelfState) (infos : List StreamInfo) (given : List Packet) (asked : ℕ) (s : Seat) (t : Track) (slave : TeeSlave S ghosts) (inline : Bool) (left : Filtered) (dead : Bool) → JobSays state slave dead → Attends {S = S} {G = G} {ghosts = ghosts} state infos given asked false s t (outlet.Here slave inline left) → dead ≡ known_dead s t
here_says G state infos given asked s (Here h) slave inline left dead says a = says s.origin s.slave.fifo (chosen s given) a.0.keeps ∙ ap (λ (x : History). is_dead s x) a.0.history_is
here_says G state infos given asked s (There told) slave inline left dead says a = absurd a

pub here_sits : {S : Type 0} {ghosts : Ghosts S} (G : Type 0) (state : S → ShelfState) (infos : List StreamInfo) (given : List Packet) (asked : ℕ) (s : Seat) (t : Track) (slave : TeeSlave S ghosts) (inline : Bool) (left : Filtered) → Attends {S = S} {G = G} {ghosts = ghosts} state infos given asked false s t (outlet.Here slave inline left) → (h : History) × Sits state infos given s h slave
here_sits G state infos given asked s (Here h) slave inline left a = (h, a.0)
here_sits G state infos given asked s (There told) slave inline left a = absurd a

pub here_on : {S : Type 0} {ghosts : Ghosts S} (G : Type 0) (state : S → ShelfState) (infos : List StreamInfo) (given : List Packet) (asked : ℕ) (n : ℕ) (s : Seat) (t : Track) (slave : TeeSlave S ghosts) (inline : Bool) (left : Filtered) → Attends {S = S} {G = G} {ghosts = ghosts} state infos given asked false s t (outlet.Here slave inline left)
    → AttendsOn {S = S} {G = G} {ghosts = ghosts} state infos given n n s t (outlet.Here slave inline left)
here_on G state infos given asked n s (Here h) slave inline left a = (Here h, a, record { later = []; goes_on = refl; stays_dead = λ d. d })
here_on G state infos given asked n s (There told) slave inline left a = absurd a

pub here_gave : {S : Type 0} {ghosts : Ghosts S} (G : Type 0) (state : S → ShelfState) (infos : List StreamInfo) (given : List Packet) (asked : ℕ) (n : ℕ) (p : Packet) (s : Seat) (t : Track) (slave new : TeeSlave S ghosts) (inline : Bool) (left after : Filtered) → Attends {S = S} {G = G} {ghosts = ghosts} state infos given asked false s t (outlet.Here slave inline left)
    → ((h : History) → Sits state infos given s h slave → SitsOn state infos (given ++ p ∷ []) s h new)
    → AttendsOn {S = S} {G = G} {ghosts = ghosts} state infos (given ++ p ∷ []) asked n s t (outlet.Here new inline after)
here_gave G state infos given asked n p s (Here h) slave new inline left after a f =
    let on = f h a.0 in
    (Here on.history, (on.sits, a.1), record { later = on.later; goes_on = on.goes_on; stays_dead = on.stays_dead })
here_gave G state infos given asked n p s (There told) slave new inline left after a f = absurd a

started_still : (s : Seat) (old new : Sender) (running : Task) → SameEnd old new → IsStarted s old running → IsStarted s new running
started_still s old new running same st = record { fresh = st.fresh; ring = st.ring ∙ sym same.ring; about = st.about ∙ sym same.about }

pub there_on : {S : Type 0} (G : Type 0) (ghosts : Ghosts S) (state : S → ShelfState) (infos : List StreamInfo) (given : List Packet) (asked : ℕ) (s : Seat) (t : Track) (old new : Sender) (running : Task) → Attends {S = S} {G = G} {ghosts = ghosts} state infos given asked false s t (outlet.There old running) → SameEnd old new
    → ((told : Option ℕ) → Rides infos given asked s told old → (after : Option ℕ) × Rides infos given (asked + 1) s after new × ToldBy (asked + 1) told after)
    → AttendsOn {S = S} {G = G} {ghosts = ghosts} state infos given (asked + 1) (asked + 1) s t (outlet.There new running)
there_on G ghosts state infos given asked s (Here h) old new running a same f = absurd a
there_on G ghosts state infos given asked s (There told) old new running a same f =
    let on = f told a.0 in
    (There on.0, (on.1, started_still s old new running same a.1, same.closed ∙ a.2), on.2)

pub there_gave : {S : Type 0} (G : Type 0) (ghosts : Ghosts S) (state : S → ShelfState) (infos : List StreamInfo) (given : List Packet) (asked : ℕ) (n : ℕ) (p : Packet) (s : Seat) (t : Track) (old new : Sender) (running : Task) → Attends {S = S} {G = G} {ghosts = ghosts} state infos given asked false s t (outlet.There old running) → SameEnd old new
    → ((told : Option ℕ) → Rides infos given asked s told old → Rides infos (given ++ p ∷ []) asked s told new)
    → AttendsOn {S = S} {G = G} {ghosts = ghosts} state infos (given ++ p ∷ []) asked n s t (outlet.There new running)
there_gave G ghosts state infos given asked n p s (Here h) old new running a same f = absurd a
there_gave G ghosts state infos given asked n p s (There told) old new running a same f = (There told, (f told a.0, started_still s old new running same a.1, same.closed ∙ a.2), inl refl)

-- how each output stands now
pub stand_all : {S G : Type 0} {ghosts : Ghosts S} (state : S → ShelfState) (infos : List StreamInfo) (given : List Packet) (u : ℕ) (ss : List Seat) (ts : List Track) (os : List (Outlet S G ghosts))
    → u ≡ length given → Each3 (Attends state infos given u false) ss ts os → Each3 (StoodOn given u) ss ts (known_deads ss ts)
stand_all state infos given u [] [] [] e a = tt
stand_all state infos given u [] [] (o ∷ os) e a = absurd a
stand_all state infos given u [] (t ∷ ts) os e a = absurd a
stand_all state infos given u (s ∷ ss) [] os e a = absurd a
stand_all state infos given u (s ∷ ss) (t ∷ ts) [] e a = absurd a
stand_all state infos given u (s ∷ ss) (Here h ∷ ts) (outlet.Here slave inline left ∷ os) e a = (stands_now state infos given u s h slave e a.0.0, stand_all state infos given u ss ts os e a.1)
stand_all state infos given u (s ∷ ss) (Here h ∷ ts) (outlet.There sender running ∷ os) e a = absurd a.0
stand_all state infos given u (s ∷ ss) (There told ∷ ts) (outlet.Here slave inline left ∷ os) e a = absurd a.0
stand_all state infos given u (s ∷ ss) (There told ∷ ts) (outlet.There sender running ∷ os) e a = (known_now told u a.0.0.within, stand_all state infos given u ss ts os e a.1)

-- an output with a thread stands as it did
pub there_same : {S : Type 0} (G : Type 0) (ghosts : Ghosts S) (state : S → ShelfState) (infos : List StreamInfo) (given : List Packet) (asked : ℕ) (s : Seat) (t : Track) (old new : Sender) (running : Task)
    → Attends {S = S} {G = G} {ghosts = ghosts} state infos given asked false s t (outlet.There old running) → SameEnd old new
    → ((told : Option ℕ) → Rides infos given asked s told old → Rides infos given asked s told new)
    → Attends {S = S} {G = G} {ghosts = ghosts} state infos given asked false s t (outlet.There new running)
there_same G ghosts state infos given asked s (Here h) old new running a same f = absurd a
there_same G ghosts state infos given asked s (There told) old new running a same f = (f told a.0, started_still s old new running same a.1, same.closed ∙ a.2)

-- an output that the reader writes stands as it did, whatever is left of a packet for it
pub here_same : {S : Type 0} {ghosts : Ghosts S} (G : Type 0) (state : S → ShelfState) (infos : List StreamInfo) (given : List Packet) (asked : ℕ) (s : Seat) (t : Track) (slave : TeeSlave S ghosts) (inline : Bool) (left after : Filtered)
    → Attends {S = S} {G = G} {ghosts = ghosts} state infos given asked false s t (outlet.Here slave inline left) → Attends {S = S} {G = G} {ghosts = ghosts} state infos given asked false s t (outlet.Here slave inline after)
here_same G state infos given asked s (Here h) slave inline left after a = a
here_same G state infos given asked s (There told) slave inline left after a = absurd a

pub here_placed : {S : Type 0} {ghosts : Ghosts S} (G : Type 0) (state : S → ShelfState) (infos : List StreamInfo) (given : List Packet) (asked : ℕ) (s : Seat) (t : Track) (slave : TeeSlave S ghosts) (inline : Bool) (left : Filtered)
    → Attends {S = S} {G = G} {ghosts = ghosts} state infos given asked false s t (outlet.Here slave inline left) → IsPlaced infos s slave.choice
here_placed G state infos given asked s (Here h) slave inline left a = a.0.placed
here_placed G state infos given asked s (There told) slave inline left a = absurd a

pub there_placed : {S : Type 0} (G : Type 0) (ghosts : Ghosts S) (state : S → ShelfState) (infos : List StreamInfo) (given : List Packet) (asked : ℕ) (s : Seat) (t : Track) (sender : Sender) (running : Task)
    → Attends {S = S} {G = G} {ghosts = ghosts} state infos given asked false s t (outlet.There sender running) → IsPlaced infos s sender.choice
there_placed G ghosts state infos given asked s (Here h) sender running a = absurd a
there_placed G ghosts state infos given asked s (There told) sender running a = a.0.placed
