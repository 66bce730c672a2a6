-- What is known of the outputs of a run, as packets come.
use Rattle.std.proofs.Common.{◌≡◌, ◌≤◌, ◌<◌, ◌+◌, ℕ, List, [], ◌∷◌, ◌++◌, length, take, Bool, true, Option, Some, None, refl, sym, ◌∙◌, ap, subst, arith, inl, inr, append_assoc, length-append}
use Rattle.std.specs.Prelude.{is_some}
use Rattle.std.proofs.lemmas.Bool.Decides.{nat_tests}
use Rattle.std.proofs.lemmas.List.{take-append-le}
use Rattle.fifo_core.specs.History.{History}
use Rattle.fifo_core.specs.Follows.{Follows}
use Rattle.rmx_media.specs.declared.packet.Packet.{Packet}
use Rattle.slave.specs.Table.{turns_from}
use Rattle.tee.specs.Attends.{WatchesOn}
use Rattle.tee.specs.Each.{Each3}
use Rattle.tee.specs.Ends.{Stood}
use Rattle.tee.specs.Fails.{any_both, all_of, stops}
use Rattle.tee.specs.Keeps.{IsWithin, stopped_by, stopped_with}
use Rattle.tee.specs.Seat.{Seat, aborts, chosen}
use Rattle.tee.specs.Tracks.{Track, Here, There, StoodOn, TrackGoesOn, known_dead, known_deads}
use Rattle.tee.proofs.Watching.{all_grows, any_grows, either_grows, known_before, known_now, last_or, now_by, now_first, within_by, within_first}

-- given up stays so
dead_stays : (n : ℕ) (s : Seat) (t r : Track) → TrackGoesOn n s t r → known_dead s t ≡ true → known_dead s r ≡ true
dead_stays n s (Here h) (Here k) on e = on.stays_dead e
dead_stays n s (Here h) (There told) on e = absurd on
dead_stays n s (There told) (Here k) on e = absurd on
dead_stays n s (There told) (There now) on e = elim on [
  | inl same ↦ ap is_some same ∙ e
  | inr new ↦ ap is_some new.1
]

any_stays : (n : ℕ) (ss : List Seat) (ts rs : List Track) → Each3 (TrackGoesOn n) ss ts rs → any_both (aborts ss) (known_deads ss ts) ≡ true → any_both (aborts ss) (known_deads ss rs) ≡ true
any_stays n [] [] [] on e = e
any_stays n [] [] (r ∷ rs) on e = absurd on
any_stays n [] (t ∷ ts) rs on e = absurd on
any_stays n (s ∷ ss) [] rs on e = absurd on
any_stays n (s ∷ ss) (t ∷ ts) [] on e = absurd on
any_stays n (s ∷ ss) (t ∷ ts) (r ∷ rs) on e =
    any_grows s.slave.abort (known_dead s t) (known_dead s r) (any_both (aborts ss) (known_deads ss ts)) (any_both (aborts ss) (known_deads ss rs)) (dead_stays n s t r on.0) (any_stays n ss ts rs on.1) e

all_stay : (n : ℕ) (ss : List Seat) (ts rs : List Track) → Each3 (TrackGoesOn n) ss ts rs → all_of (known_deads ss ts) ≡ true → all_of (known_deads ss rs) ≡ true
all_stay n [] [] [] on e = e
all_stay n [] [] (r ∷ rs) on e = absurd on
all_stay n [] (t ∷ ts) rs on e = absurd on
all_stay n (s ∷ ss) [] rs on e = absurd on
all_stay n (s ∷ ss) (t ∷ ts) [] on e = absurd on
all_stay n (s ∷ ss) (t ∷ ts) (r ∷ rs) on e =
    all_grows (known_dead s t) (known_dead s r) (all_of (known_deads ss ts)) (all_of (known_deads ss rs)) (dead_stays n s t r on.0) (all_stay n ss ts rs on.1) e

stays_over : (n : ℕ) (ss : List Seat) (ts rs : List Track) → Each3 (TrackGoesOn n) ss ts rs → stops (aborts ss) (known_deads ss ts) ≡ true → stops (aborts ss) (known_deads ss rs) ≡ true
stays_over n ss ts rs on e =
    either_grows (any_both (aborts ss) (known_deads ss ts)) (all_of (known_deads ss ts)) (any_both (aborts ss) (known_deads ss rs)) (all_of (known_deads ss rs)) (any_stays n ss ts rs on) (all_stay n ss ts rs on) e

-- how an output that the reader writes stood stays so
stood_still_by : (s : Seat) (given : List Packet) (p : Packet) (h k : History) (u : ℕ) (dead : Bool) → u ≤ length given → (later : History) → k ≡ later ++ h → Stood s given h u dead → Stood s (given ++ p ∷ []) k u dead
stood_still_by s given p h k u dead le later on st = record {
  part = st.part;
  later = later ++ st.later;
  split = on ∙ ap (λ (x : History). later ++ x) st.split ∙ sym (append_assoc later st.later st.part);
  follows =
      let same : take u (given ++ p ∷ []) ≡ take u given = take-append-le u given (p ∷ []) le in
      subst (λ (ps : List Packet). Follows s.slave.fifo (turns_from s.origin 0 (chosen s ps)) st.part) (sym same) st.follows;
  dead_is = st.dead_is;
}

-- the answer to a later question says nothing of the packets before
told_before : (told : Option ℕ) (n u : ℕ) → told ≡ None → u < n → stopped_by (Some n) u ≡ stopped_by told u
told_before None n u e lt = grind (arith, nat_tests)
told_before (Some k) n u e lt = absurd cc

-- how an output stood stays so
stood_on : (given : List Packet) (p : Packet) (n u : ℕ) (s : Seat) (t r : Track) (dead : Bool) → u ≤ length given → length given < n → TrackGoesOn n s t r → StoodOn given u s t dead
    → StoodOn (given ++ p ∷ []) u s r dead
stood_on given p n u s (Here h) (Here k) dead le lt on st = stood_still_by s given p h k u dead le on.later on.goes_on st
stood_on given p n u s (Here h) (There now) dead le lt on st = absurd on
stood_on given p n u s (There told) (Here k) dead le lt on st = absurd on
stood_on given p n u s (There told) (There now) dead le lt on st = elim on [
  | inl same ↦ ap (λ (o : Option ℕ). stopped_by o u) same ∙ st
  | inr new ↦ ap (λ (o : Option ℕ). stopped_by o u) new.1 ∙ told_before told n u new.0 (omega arith) ∙ st
]

all_stood_on : (given : List Packet) (p : Packet) (n u : ℕ) (ss : List Seat) (ts rs : List Track) (dead : List Bool) → u ≤ length given → length given < n → Each3 (TrackGoesOn n) ss ts rs
    → Each3 (StoodOn given u) ss ts dead → Each3 (StoodOn (given ++ p ∷ []) u) ss rs dead
all_stood_on given p n u [] [] [] [] le lt on a = tt
all_stood_on given p n u [] [] [] (d ∷ ds) le lt on a = absurd a
all_stood_on given p n u [] [] (r ∷ rs) dead le lt on a = absurd on
all_stood_on given p n u [] (t ∷ ts) rs dead le lt on a = absurd on
all_stood_on given p n u (s ∷ ss) [] rs dead le lt on a = absurd on
all_stood_on given p n u (s ∷ ss) (t ∷ ts) [] dead le lt on a = absurd on
all_stood_on given p n u (s ∷ ss) (t ∷ ts) (r ∷ rs) [] le lt on a = absurd a
all_stood_on given p n u (s ∷ ss) (t ∷ ts) (r ∷ rs) (d ∷ ds) le lt on a = (stood_on given p n u s t r d le lt on.0 a.0, all_stood_on given p n u ss ts rs ds le lt on.1 a.1)

-- one packet more
pub watch_more : (seats : List Seat) (given : List Packet) (p : Packet) (ts rs : List Track) (count : ℕ) (stopped : Option ℕ) → WatchesOn seats given ts count stopped
    → Each3 (TrackGoesOn (length given + 1)) seats ts rs → Each3 (StoodOn (given ++ p ∷ []) (length given + 1)) seats rs (known_deads seats rs)
    → WatchesOn seats (given ++ p ∷ []) rs (count + 1) (stopped_with stopped (stops (aborts seats) (known_deads seats rs)) (count + 1))
watch_more seats given p ts rs count stopped w on stood =
    let over = stops (aborts seats) (known_deads seats rs) in
    let len : length (given ++ p ∷ []) ≡ length given + 1 = omega (arith, length-append given (p ∷ [])) in
    let counted : count ≡ length given = w.count_is in
    let within : IsWithin (stopped_with stopped over (length given + 1)) (length given + 1) = within_by stopped over (length given) w.within in
    let now : is_some (stopped_with stopped over (length given + 1)) ≡ over =
    now_by stopped (stops (aborts seats) (known_deads seats ts)) over (length given + 1) w.now (stays_over (length given + 1) seats ts rs on) in
    rw counted record {
      count_is = omega arith;
      within = rw len within;
      now = now;
      stood = λ u le. elim (last_or u (length given) (omega arith)) [
        | inl before ↦ let st = w.stood u before in
            (st.0, all_stood_on given p (length given + 1) u seats ts rs st.0 before (omega arith) on st.1, known_before stopped over (length given + 1) u (omega arith) ∙ st.2)
        | inr last ↦ (known_deads seats rs, rw last stood, rw last (known_now (stopped_with stopped over (length given + 1)) (length given + 1) within ∙ now))
      ];
    }

-- before the first packet
pub watch_none : (seats : List Seat) (ts : List Track) (stopped : Option ℕ) → Each3 (StoodOn [] 0) seats ts (known_deads seats ts)
    → stopped ≡ stopped_with None (stops (aborts seats) (known_deads seats ts)) 0 → WatchesOn seats [] ts 0 stopped
watch_none seats ts stopped stood e =
    let over = stops (aborts seats) (known_deads seats ts) in
    let within : IsWithin stopped 0 = rw e (within_first over) in
    let now : is_some stopped ≡ over = rw e (now_first over) in
    record {
      count_is = refl;
      within = within;
      now = now;
      stood = λ u le.
          let none : u ≡ 0 = omega arith in
          (known_deads seats ts, rw none stood, rw none (known_now stopped 0 within ∙ now));
    }
