-- When a run is over.
use Rattle.std.proofs.Common.{◌≡◌, ◌<◌, ◌≤◌, ◌+◌, ◌⊎◌, ℕ, List, [], ◌∷◌, ◌++◌, length, length-append, append_assoc, take, Bool, true, false, Option, Some, None, refl, sym, ◌∙◌, ap, subst, inl, inr, arith}
use Rattle.std.specs.Prelude.{◌&&◌, ◌||◌, nat_le, is_some}
use Rattle.std.proofs.lemmas.Bool.Decides.{nat_tests}
use Rattle.std.proofs.lemmas.List.{take-append-le, take_all}
use Rattle.fifo_core.specs.History.{History}
use Rattle.fifo_core.specs.Follows.{Follows}
use Rattle.rmx_edge.specs.Shelf.{ShelfState}
use Rattle.rmx_edge.specs.declared.shelf.Shelf.{Ghosts}
use Rattle.rmx_media.specs.declared.packet.Packet.{Packet}
use Rattle.rmx_media.specs.declared.streams.StreamInfo.{StreamInfo}
use Rattle.slave.specs.Table.{turns_from}
use Rattle.tee.specs.Ends.{Stood, AllStood}
use Rattle.tee.specs.Fails.{any_both, all_of, stops}
use Rattle.tee.specs.Keeps.{IsWithin, Watches, dead_in, stopped_by, stopped_with}
use Rattle.tee.specs.Keeps.{Keeps as KeepsTee}
use Rattle.tee.specs.declared.tee.Tee.{Tee}
use Rattle.tee.specs.Seat.{Seat, aborts, chosen}
use Rattle.tee.specs.Sits.{Sits, AllSit, AllSitOn, deads, is_dead}
use Rattle.tee.specs.declared.output.TeeSlave.{TeeSlave}

-- a history goes on, and what was given up stays so
record GoesOn (s : Seat) (old new : History) : Type 0 where
  later : History
  goes_on : new ≡ later ++ old
  stays_dead : is_dead s old ≡ true → is_dead s new ≡ true

abbrev AllGoOn : List Seat → List History → List History → Type 0
AllGoOn [] [] [] = Unit {0}
AllGoOn (s ∷ ss) (h ∷ hs) (g ∷ gs) = GoesOn s h g × AllGoOn ss hs gs
AllGoOn [] [] (g ∷ gs) = ⊥
AllGoOn [] (h ∷ hs) gs = ⊥
AllGoOn (s ∷ ss) [] gs = ⊥
AllGoOn (s ∷ ss) (h ∷ hs) [] = ⊥

-- outputs that got a packet sit with longer histories
record Longer {S : Type 0} {ghosts : Ghosts S} (state : S → ShelfState) (infos : List StreamInfo) (given : List Packet)
    (seats : List Seat) (histories : List History) (slaves : List (TeeSlave S ghosts)) : Type 0 where
  longer : List History
  sit : AllSit state infos given seats longer slaves
  go_on : AllGoOn seats histories longer

longer : {S : Type 0} {ghosts : Ghosts S} (state : S → ShelfState) (infos : List StreamInfo) (given : List Packet) (ss : List Seat) (hs : List History) (ts : List (TeeSlave S ghosts))
    → AllSitOn state infos given ss hs ts → Longer state infos given ss hs ts
longer state infos given [] [] [] a = record { longer = []; sit = tt; go_on = tt }
longer state infos given [] [] (t ∷ ts) a = absurd a
longer state infos given [] (h ∷ hs) ts a = absurd a
longer state infos given (s ∷ ss) [] ts a = absurd a
longer state infos given (s ∷ ss) (h ∷ hs) [] a = absurd a
longer state infos given (s ∷ ss) (h ∷ hs) (t ∷ ts) a =
    let r = longer state infos given ss hs ts a.1 in
    record {
      longer = a.0.history ∷ r.longer;
      sit = (a.0.sits, r.sit);
      go_on = (record { later = a.0.later; goes_on = a.0.goes_on; stays_dead = a.0.stays_dead }, r.go_on);
    }

-- how an output stands now
pub stands_now : {S : Type 0} {ghosts : Ghosts S} (state : S → ShelfState) (infos : List StreamInfo) (given : List Packet) (u : ℕ) (s : Seat) (h : History) (t : TeeSlave S ghosts)
    → u ≡ length given → Sits state infos given s h t → Stood s given h u (is_dead s h)
stands_now state infos given u s h t e sits = record {
  part = h;
  later = [];
  split = refl;
  follows =
      let all : take u given ≡ given = take_all u given (omega arith) in
      subst (λ (ps : List Packet). Follows s.slave.fifo (turns_from s.origin 0 (chosen s ps)) h) (sym all)
      (subst (λ (x : History). Follows s.slave.fifo (turns_from s.origin 0 (chosen s given)) x) sits.history_is sits.keeps.follows);
  dead_is = refl;
}

pub stand_now : {S : Type 0} {ghosts : Ghosts S} (state : S → ShelfState) (infos : List StreamInfo) (given : List Packet) (u : ℕ) (ss : List Seat) (hs : List History) (ts : List (TeeSlave S ghosts))
    → u ≡ length given → AllSit state infos given ss hs ts → AllStood ss given hs u (deads ss hs)
stand_now state infos given u [] [] [] e a = tt
stand_now state infos given u [] [] (t ∷ ts) e a = absurd a
stand_now state infos given u [] (h ∷ hs) ts e a = absurd a
stand_now state infos given u (s ∷ ss) [] ts e a = absurd a
stand_now state infos given u (s ∷ ss) (h ∷ hs) [] e a = absurd a
stand_now state infos given u (s ∷ ss) (h ∷ hs) (t ∷ ts) e a = (stands_now state infos given u s h t e a.0, stand_now state infos given u ss hs ts e a.1)

-- how an output stood stays so
stood_still : (s : Seat) (given : List Packet) (p : Packet) (h g : History) (u : ℕ) (dead : Bool) → u ≤ length given → GoesOn s h g → Stood s given h u dead → Stood s (given ++ p ∷ []) g u dead
stood_still s given p h g u dead le on st = record {
  part = st.part;
  later = on.later ++ st.later;
  split = on.goes_on ∙ ap (λ (x : History). on.later ++ x) st.split ∙ sym (append_assoc on.later st.later st.part);
  follows =
      let same : take u (given ++ p ∷ []) ≡ take u given = take-append-le u given (p ∷ []) le in
      subst (λ (ps : List Packet). Follows s.slave.fifo (turns_from s.origin 0 (chosen s ps)) st.part) (sym same) st.follows;
  dead_is = st.dead_is;
}

all_still : (given : List Packet) (p : Packet) (u : ℕ) (ss : List Seat) (hs gs : List History) (dead : List Bool) → u ≤ length given → AllGoOn ss hs gs → AllStood ss given hs u dead → AllStood ss (given ++ p ∷ []) gs u dead
all_still given p u [] [] [] [] le on a = tt
all_still given p u [] [] [] (d ∷ ds) le on a = absurd a
all_still given p u [] [] (g ∷ gs) dead le on a = absurd on
all_still given p u [] (h ∷ hs) gs dead le on a = absurd on
all_still given p u (s ∷ ss) [] gs dead le on a = absurd on
all_still given p u (s ∷ ss) (h ∷ hs) [] dead le on a = absurd on
all_still given p u (s ∷ ss) (h ∷ hs) (g ∷ gs) [] le on a = absurd a
all_still given p u (s ∷ ss) (h ∷ hs) (g ∷ gs) (d ∷ ds) le on a = (stood_still s given p h g u d le on.0 a.0, all_still given p u ss hs gs ds le on.1 a.1)

-- a run that is over stays over
pub any_grows : (a d e x y : Bool) → (d ≡ true → e ≡ true) → (x ≡ true → y ≡ true) → ((a && d) || x) ≡ true → ((a && e) || y) ≡ true
any_grows false d e x y f g h = g h
any_grows true true e x y f g h = let is : e ≡ true = f refl in rw is refl
any_grows true false true x y f g h = refl
any_grows true false false x y f g h = g h

pub all_grows : (d e x y : Bool) → (d ≡ true → e ≡ true) → (x ≡ true → y ≡ true) → (d && x) ≡ true → (e && y) ≡ true
all_grows true e x y f g h = let is : e ≡ true = f refl in rw is (g h)
all_grows false e x y f g h = absurd cc

any_stays : (ss : List Seat) (hs gs : List History) → AllGoOn ss hs gs → any_both (aborts ss) (deads ss hs) ≡ true → any_both (aborts ss) (deads ss gs) ≡ true
any_stays [] [] [] on h = h
any_stays [] [] (g ∷ gs) on h = absurd on
any_stays [] (x ∷ hs) gs on h = absurd on
any_stays (s ∷ ss) [] gs on h = absurd on
any_stays (s ∷ ss) (x ∷ hs) [] on h = absurd on
any_stays (s ∷ ss) (x ∷ hs) (g ∷ gs) on h =
    any_grows s.slave.abort (is_dead s x) (is_dead s g) (any_both (aborts ss) (deads ss hs)) (any_both (aborts ss) (deads ss gs)) on.0.stays_dead (any_stays ss hs gs on.1) h

all_stay : (ss : List Seat) (hs gs : List History) → AllGoOn ss hs gs → all_of (deads ss hs) ≡ true → all_of (deads ss gs) ≡ true
all_stay [] [] [] on h = h
all_stay [] [] (g ∷ gs) on h = absurd on
all_stay [] (x ∷ hs) gs on h = absurd on
all_stay (s ∷ ss) [] gs on h = absurd on
all_stay (s ∷ ss) (x ∷ hs) [] on h = absurd on
all_stay (s ∷ ss) (x ∷ hs) (g ∷ gs) on h = all_grows (is_dead s x) (is_dead s g) (all_of (deads ss hs)) (all_of (deads ss gs)) on.0.stays_dead (all_stay ss hs gs on.1) h

pub either_grows : (a b x y : Bool) → (a ≡ true → x ≡ true) → (b ≡ true → y ≡ true) → (a || b) ≡ true → (x || y) ≡ true
either_grows true b x y f g h = let is : x ≡ true = f refl in rw is refl
either_grows false b true y f g h = refl
either_grows false b false y f g h = g h

stays_over : (ss : List Seat) (hs gs : List History) → AllGoOn ss hs gs → stops (aborts ss) (deads ss hs) ≡ true → stops (aborts ss) (deads ss gs) ≡ true
stays_over ss hs gs on h =
    either_grows (any_both (aborts ss) (deads ss hs)) (all_of (deads ss hs)) (any_both (aborts ss) (deads ss gs)) (all_of (deads ss gs)) (any_stays ss hs gs on) (all_stay ss hs gs on) h

-- what is known of the packets before stays known
pub known_before : (stopped : Option ℕ) (over : Bool) (n u : ℕ) → u < n → stopped_by (stopped_with stopped over n) u ≡ stopped_by stopped u
known_before None true n u lt = grind (arith, nat_tests)
known_before None false n u lt = refl
known_before (Some k) over n u lt = refl

pub within_by : (stopped : Option ℕ) (over : Bool) (n : ℕ) → IsWithin stopped n → IsWithin (stopped_with stopped over (n + 1)) (n + 1)
within_by None true n w = omega arith
within_by None false n w = tt
within_by (Some k) over n w = omega arith

pub now_by : (stopped : Option ℕ) (was over : Bool) (n : ℕ) → is_some stopped ≡ was → (was ≡ true → over ≡ true) → is_some (stopped_with stopped over n) ≡ over
now_by None was true n e f = refl
now_by None was false n e f = refl
now_by (Some k) was over n e f = sym (f (sym e))

-- what is known of the last packet
pub known_now : (stopped : Option ℕ) (n : ℕ) → IsWithin stopped n → stopped_by stopped n ≡ is_some stopped
known_now None n w = refl
known_now (Some k) n w = grind (arith, nat_tests)

last_by : (b : Bool) (u n : ℕ) → b ≡ nat_le u n → u ≤ n + 1 → (u ≤ n) ⊎ (u ≡ n + 1)
last_by true u n e le = inl (grind (arith, nat_tests))
last_by false u n e le = let above : n < u = grind (arith, nat_tests) in inr (omega arith)

pub last_or : (u n : ℕ) → u ≤ n + 1 → (u ≤ n) ⊎ (u ≡ n + 1)
last_or u n le = last_by (nat_le u n) u n refl le

-- one packet more
watch_on : (seats : List Seat) (given : List Packet) (p : Packet) (hs gs : List History) (count : ℕ) (stopped : Option ℕ) → Watches seats given hs count stopped → AllGoOn seats hs gs
    → AllStood seats (given ++ p ∷ []) gs (length given + 1) (deads seats gs)
    → Watches seats (given ++ p ∷ []) gs (count + 1) (stopped_with stopped (stops (aborts seats) (deads seats gs)) (count + 1))
watch_on seats given p hs gs count stopped w on stood =
    let over = stops (aborts seats) (deads seats gs) in
    let len : length (given ++ p ∷ []) ≡ length given + 1 = omega (arith, length-append given (p ∷ [])) in
    let counted : count ≡ length given = w.count_is in
    let within : IsWithin (stopped_with stopped over (length given + 1)) (length given + 1) = within_by stopped over (length given) w.within in
    let now : is_some (stopped_with stopped over (length given + 1)) ≡ over =
    now_by stopped (stops (aborts seats) (deads seats hs)) over (length given + 1) w.now (stays_over seats hs gs on) in
    rw counted record {
      count_is = omega arith;
      within = rw len within;
      now = now;
      stood = λ u le. elim (last_or u (length given) (omega arith)) [
        | inl before ↦ let st = w.stood u before in
            (st.0, all_still given p u seats hs gs st.0 before on st.1, known_before stopped over (length given + 1) u (omega arith) ∙ st.2)
        | inr last ↦ (deads seats gs, rw last stood, rw last (known_now (stopped_with stopped over (length given + 1)) (length given + 1) within ∙ now))
      ];
    }

-- all outputs got one packet more
pub record Went {S : Type 0} {ghosts : Ghosts S} (state : S → ShelfState) (infos : List StreamInfo) (slaves : List (TeeSlave S ghosts)) (count : ℕ) (stopped : Option ℕ) (seats : List Seat)
    (given : List Packet) : Type 0 where
  pub histories : List History
  pub sit : AllSit state infos given seats histories slaves
  pub watches : Watches seats given histories (count + 1) (stopped_with stopped (stops (aborts seats) (deads seats histories)) (count + 1))

pub went_on : {S : Type 0} {ghosts : Ghosts S} (state : S → ShelfState) (infos : List StreamInfo) (slaves : List (TeeSlave S ghosts)) (count : ℕ) (stopped : Option ℕ) (seats : List Seat)
    (given : List Packet) (p : Packet) (histories : List History) → Watches seats given histories count stopped → AllSitOn state infos (given ++ p ∷ []) seats histories slaves
    → Went state infos slaves count stopped seats (given ++ p ∷ [])
went_on state infos slaves count stopped seats given p histories w on =
    let l = longer state infos (given ++ p ∷ []) seats histories slaves on in
    record {
      histories = l.longer;
      sit = l.sit;
      watches = watch_on seats given p histories l.longer count stopped w l.go_on
          (stand_now state infos (given ++ p ∷ []) (length given + 1) seats l.longer slaves (omega (arith, length-append given (p ∷ []))) l.sit);
    }

-- what a tee is after one packet more
pub fed_on : {S : Type 0} {ghosts : Ghosts S} (state : S → ShelfState) (old new : Tee S ghosts) (seats : List Seat) (given : List Packet) (p : Packet) (stop : Bool) → (k : KeepsTee state old seats given)
    → new.infos ≡ old.infos
    → AllSitOn state old.infos.items (given ++ p ∷ []) seats k.stands.histories new.slaves.items → length new.slaves.items ≡ length old.slaves.items
    → new.given ≡ old.given + 1
    → ((hs : List History) → AllSit state old.infos.items (given ++ p ∷ []) seats hs new.slaves.items → new.stopped ≡ stopped_with old.stopped (stops (aborts seats) (deads seats hs)) (old.given + 1))
    → new.ends ≡ old.ends → stop ≡ is_some new.stopped
    → KeepsTee state new seats (given ++ p ∷ []) × ((u : ℕ) → u ≤ length given → dead_in new u ≡ dead_in old u) × (dead_in new (length given + 1) ≡ stop)
fed_on {S} {ghosts} state old new seats given p stop k infos on len count stopped ends told =
    let w = went_on state old.infos.items new.slaves.items old.given old.stopped seats given p k.stands.histories k.stands.watches on in
    let is = stopped w.histories w.sit in
    let watches : Watches seats (given ++ p ∷ []) w.histories new.given new.stopped = rw (count, is) w.watches in
    let counted = k.stands.watches.count_is in
    let whole : length (given ++ p ∷ []) ≡ length given + 1 = omega (arith, length-append given (p ∷ [])) in (
      record {
        stands = record {
          are_infos = rw infos k.stands.are_infos;
          histories = w.histories;
          sit = rw infos w.sit;
          watches = watches;
        };
        few = rw len k.few;
        none_ended = rw ends k.none_ended;
        room = rw (len, ends) k.room;
      },
      λ u le. rw is (known_before old.stopped (stops (aborts seats) (deads seats w.histories)) (old.given + 1) u (omega arith)),
      (let within : IsWithin new.stopped (length given + 1) = rw whole at watches.within in known_now new.stopped (length given + 1) within ∙ sym told),
    )

pub within_first : (over : Bool) → IsWithin (stopped_with None over 0) 0
within_first true = omega arith
within_first false = tt

pub now_first : (over : Bool) → is_some (stopped_with None over 0) ≡ over
now_first true = refl
now_first false = refl

-- before the first packet
pub watch_first : {S : Type 0} {ghosts : Ghosts S} (state : S → ShelfState) (infos : List StreamInfo) (ss : List Seat) (hs : List History) (ts : List (TeeSlave S ghosts)) (stopped : Option ℕ) → AllSit state infos [] ss hs ts
    → stopped ≡ stopped_with None (stops (aborts ss) (deads ss hs)) 0 → Watches ss [] hs 0 stopped
watch_first state infos ss hs ts stopped a e =
    let over = stops (aborts ss) (deads ss hs) in
    let within : IsWithin stopped 0 = rw e (within_first over) in
    let now : is_some stopped ≡ over = rw e (now_first over) in
    record {
      count_is = refl;
      within = within;
      now = now;
      stood = λ u le.
          let none : u ≡ 0 = omega arith in
          (deads ss hs, stand_now state infos [] u ss hs ts none a, rw none (known_now stopped 0 within ∙ now));
    }
