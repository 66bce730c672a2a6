-- Faults noted at the same calls give the same fates and sessions.
use Rattle.std.proofs.Common.{◌≡◌, ◌≢◌, ℕ, suc, ◌+◌, ◌≤◌, ◌<◌, ◌⊎◌, inl, inr, Bool, true, false, not, ◌&&◌, ◌||◌, ◌==◌, if◌then◌else◌, List, [], ◌∷◌, ◌++◌, length, map, filter_map, Option, Some, None, is_some, refl, ap, sym, ◌∙◌, subst, arith, length-append}
use Rattle.std.proofs.lemmas.Bool.Decides.{nat_tests}
use Rattle.std.proofs.Math.Bool.{or-false, or-true, and-false}
use Rattle.fifo_core.specs.declared.types.FifoOptions.{FifoOptions}
use Rattle.fifo_core.specs.declared.types.PacketFacts.{PacketFacts}
use Rattle.fifo_core.specs.declared.types.Answer.{Answer}
use Rattle.fifo_core.specs.declared.types.Answer.TheVariants as answer
use Rattle.fifo_core.specs.declared.types.Action.{Action}
use Rattle.fifo_core.specs.declared.types.Action.TheVariants as action
use Rattle.fifo_core.specs.declared.types.After.{After}
use Rattle.fifo_core.specs.declared.types.After.TheVariants as after
use Rattle.fifo_core.specs.declared.types.Fate.{Fate}
use Rattle.fifo_core.specs.declared.types.Fate.TheVariants as fate
use Rattle.fifo_core.specs.declared.types.Mode.TheVariants.{Live, Broken, Dead}
use Rattle.fifo_core.specs.History.{Begun, Tried, Fated, Want, History, wanted, mode_of, mode_is_live, session_of, trying, after_of, after_answer_of, streak}
use Rattle.fifo_core.specs.Follows.{Turn, Comes, Flushes, MayWant, Turned, Acted, FirstTry, Answered, Settled, Runs, Follows}
use Rattle.fifo_core.specs.Causes.{InTurn, turn_index}
use Rattle.fifo_core.specs.Laws.{AnswersAs}
use Rattle.fifo_core.proofs.Before.{is_determined}
use Rattle.slave.specs.declared.records.FaultAt.{FaultAt}
use Rattle.slave.specs.declared.records.FaultAt.TheVariants.{Begin, Put, End}
use Rattle.slave.specs.declared.records.FaultNote.{FaultNote}
use Rattle.slave.specs.declared.records.SessionNote.{SessionNote}
use Rattle.fifo_core.specs.declared.types.EndState.TheVariants as ends
use Rattle.fifo_core.specs.History.{fates_of, is_live, end_of}
use Rattle.fifo_core.specs.Follows.{Follows}
use Rattle.lane.specs.Sides.{ReceiptSide}
use Rattle.rmx_edge.specs.Shelf.{ShelfState}
use Rattle.rmx_media.specs.declared.packet.Packet.{Packet}
use Rattle.slave.specs.Origin.{Origin, facts_of}
use Rattle.slave.specs.Given.{Given, Sent, Swept, Gives, turn_of, sent_from}
use Rattle.slave.specs.Runs.{expand}
use Rattle.slave.specs.Table.{NotesTell, Outcome, Open, NotCalled, NotBegun, PutFailed, EndFailed, Closed, Row, AllRows, LeftBy, RowHolds, IsAt, Numbered, StandsAt, row_note, row_fault, turns_from}
use Rattle.slave.specs.End.{EndView, Ended, EndNotes, EndsAs}
use Rattle.slave.specs.LaneAccounts.{unrefused, messages_from, PassedOn}
use Rattle.slave.specs.AccountsAll.{SweptAt}
use Rattle.slave.specs.Schedule.{place_of, EndsUnrefused, EndsBlocking, FaultsDecide}
use Rattle.slave.proofs.Direct.{sent_turns}
use Rattle.slave.proofs.Rows.{map_push, faults_push_none, rows_front, rows_last, rows_other, numbered_last, numbered_front}
use Rattle.slave.proofs.LaneMet.{unrefused_follow}

-- each packet that was tried meets this
abbrev TriesIn : (ℕ → ℕ → Type 0) → History → Type 0
TriesIn P [] = Unit {0}
TriesIn P (Begun a ∷ h) = TriesIn P h
TriesIn P (Tried s i facts a ∷ h) = P s i × TriesIn P h
TriesIn P (Fated i f ∷ h) = TriesIn P h
TriesIn P (Want ∷ h) = TriesIn P h

tries_map : (P Q : ℕ → ℕ → Type 0) → ((s i : ℕ) → P s i → Q s i) → (h : History) → TriesIn P h → TriesIn Q h
tries_map P Q f [] k = tt
tries_map P Q f (Begun a ∷ h) k = tries_map P Q f h k
tries_map P Q f (Tried s i facts a ∷ h) k = (f s i k.0, tries_map P Q f h k.1)
tries_map P Q f (Fated i x ∷ h) k = tries_map P Q f h k
tries_map P Q f (Want ∷ h) k = tries_map P Q f h k

tries_all : (P : ℕ → ℕ → Type 0) → ((s i : ℕ) → P s i) → (h : History) → TriesIn P h
tries_all P f [] = tt
tries_all P f (Begun a ∷ h) = tries_all P f h
tries_all P f (Tried s i facts a ∷ h) = (f s i, tries_all P f h)
tries_all P f (Fated i x ∷ h) = tries_all P f h
tries_all P f (Want ∷ h) = tries_all P f h

-- the try of j in session t came before that of i in session s: in an earlier session, or earlier in the one that was open
abbrev Precedes : (s i current t j : ℕ) → Type 0
Precedes s i current t j = (t < s) ⊎ ((s ≡ current) × (j < i))

-- the tries come in order, and each in the session that is due
abbrev Ordered : FifoOptions → History → Type 0
Ordered o [] = Unit {0}
Ordered o (Begun a ∷ h) = h ≡ []
Ordered o (Tried s i facts a ∷ h) = (s ≡ trying o h) × TriesIn (Precedes s i (session_of h)) h × Ordered o h
Ordered o (Fated i f ∷ h) = Ordered o h
Ordered o (Want ∷ h) = Ordered o h

-- and none is of a packet from the n-th on
abbrev Stands : FifoOptions → ℕ → History → Type 0
Stands o n h = TriesIn (λ t j. (t ≤ session_of h) × (j < n)) h × Ordered o h

trying_by : (b : Bool) (n : ℕ) → ((if b then n else n + 1) ≡ n) ⊎ ((if b then n else n + 1) ≡ n + 1)
trying_by true n = inl refl
trying_by false n = inr refl

trying_is : (o : FifoOptions) (h : History) → (trying o h ≡ session_of h) ⊎ (trying o h ≡ session_of h + 1)
trying_is o h = trying_by (mode_is_live (mode_of o h)) (session_of h)

may_stand : (o : FifoOptions) (n : ℕ) (h g : History) → MayWant h g → Stands o n h → Stands o n g
may_stand o n h g (inl e) k = subst (Stands o n) (sym e) k
may_stand o n h g (inr e) k = subst (Stands o n) (sym e) k

may_try : (o : FifoOptions) (h g : History) → MayWant h g → trying o h ≡ session_of h + 1 → trying o g ≡ session_of g + 1
may_try o h g (inl e) k = subst (λ (x : History). trying o x ≡ session_of x + 1) (sym e) k
may_try o h g (inr e) k = subst (λ (x : History). trying o x ≡ session_of x + 1) (sym e) k

stands_more : (o : FifoOptions) (n m : ℕ) (h : History) → n ≤ m → Stands o n h → Stands o m h
stands_more o n m h le k = (
  tries_map (λ t j. (t ≤ session_of h) × (j < n)) (λ t j. (t ≤ session_of h) × (j < m)) (λ t j x. (x.0, omega (arith, x.1, le))) h k.0,
  k.1,
)

-- a packet is tried in its turn
tried_first : (o : FifoOptions) (n : ℕ) (h : History) (i : ℕ) (facts : PacketFacts) (a : Answer) → n ≤ i → Stands o n h → Stands o (i + 1) (Tried (trying o h) i facts a ∷ h)
tried_first o n h i facts a le k = (
  (
    (omega arith, omega arith),
    tries_map (λ t j. (t ≤ session_of h) × (j < n)) (λ t j. (t ≤ trying o h) × (j < i + 1))
        (λ t j x. elim (trying_is o h) [ inl e ↦ (omega (arith, e, x.0), omega (arith, x.1, le)) | inr e ↦ (omega (arith, e, x.0), omega (arith, x.1, le)) ]) h k.0,
  ),
  (
    refl,
    tries_map (λ t j. (t ≤ session_of h) × (j < n)) (Precedes (trying o h) i (session_of h))
        (λ t j x. elim (trying_is o h) [ inl e ↦ inr (e, omega (arith, x.1, le)) | inr e ↦ inl (omega (arith, e, x.0)) ]) h k.0,
    k.1,
  ),
)

-- and once more, in the next session
tried_second : (o : FifoOptions) (g : History) (i : ℕ) (facts : PacketFacts) (b : Answer) → trying o g ≡ session_of g + 1 → Stands o (i + 1) g → Stands o (i + 1) (Tried (trying o g) i facts b ∷ g)
tried_second o g i facts b e k = (
  (
    (omega arith, omega arith),
    tries_map (λ t j. (t ≤ session_of g) × (j < i + 1)) (λ t j. (t ≤ trying o g) × (j < i + 1)) (λ t j x. (omega (arith, e, x.0), x.1)) g k.0,
  ),
  (
    refl,
    tries_map (λ t j. (t ≤ session_of g) × (j < i + 1)) (Precedes (trying o g) i (session_of g)) (λ t j x. inl (omega (arith, e, x.0))) g k.0,
    k.1,
  ),
)

-- after a fault the next session is due
broken_by : (z b : Bool) (f n : ℕ) → z ≡ false → (if mode_is_live (if z then Live else (if b then Dead f else Broken f)) then n else n + 1) ≡ n + 1
broken_by true b f n e = absurd (cc e)
broken_by false true f n e = refl
broken_by false false f n e = refl

not_zero : (n : ℕ) → ((n + 1) == 0) ≡ false
not_zero n = grind (arith, nat_tests)

due_after : (o : FifoOptions) (s i : ℕ) (facts : PacketFacts) (h : History) → trying o (Tried s i facts answer.Fault ∷ h) ≡ s + 1
due_after o s i facts h = broken_by ((streak h + 1) == 0) _ _ s (not_zero (streak h))

again_fault : (o : FifoOptions) (h : History) (i : ℕ) (facts : PacketFacts) (w : Bool) (a : Answer)
    → (if w then after.Settle fate.NoMemory else after_answer_of o h i facts a) ≡ after.Again → a ≡ answer.Fault
again_fault o h i facts true a e = absurd (cc e)
again_fault o h i facts false answer.Done e = absurd (cc e)
again_fault o h i facts false answer.Fault e = refl
again_fault o h i facts false answer.NoMemory e = absurd (cc e)

settled_stands : (o : FifoOptions) (g : History) (i : ℕ) (facts : PacketFacts) (b : Answer) (r : After) (new : History)
    → Settled o g i facts b r new → Stands o (i + 1) (Tried (trying o g) i facts b ∷ g) → Stands o (i + 1) new
settled_stands o g i facts b (after.Settle f) new e k = subst (Stands o (i + 1)) (sym e) k
settled_stands o g i facts b after.Again new e k = absurd e

answered_stands : (o : FifoOptions) (n : ℕ) (g : History) (i : ℕ) (facts : PacketFacts) (a : Answer) (r : After) (new : History)
    → after_of o g i facts a ≡ r → Answered o g i facts a r new → n ≤ i → Stands o n g → Stands o (i + 1) new
answered_stands o n g i facts a (after.Settle f) new is e le k = subst (Stands o (i + 1)) (sym e) (tried_first o n g i facts a le k)
answered_stands o n g i facts a after.Again new is t le k =
    let h = Tried (trying o g) i facts a ∷ g in
    let failed : a ≡ answer.Fault = again_fault o g i facts (wanted g) a is in
    let due : trying o h ≡ session_of h + 1 = rw failed (due_after o (trying o g) i facts g) in
    settled_stands o t.1 i facts t.0 _ new t.3
    (tried_second o t.1 i facts t.0 (may_try o h t.1 t.2 due) (may_stand o (i + 1) h t.1 t.2 (tried_first o n g i facts a le k)))

first_stands : (o : FifoOptions) (n : ℕ) (h : History) (i : ℕ) (facts : PacketFacts) (new : History) → FirstTry o h i facts new → n ≤ i → Stands o n h → Stands o (i + 1) new
first_stands o n h i facts new t le k = answered_stands o n t.1 i facts t.0 (after_of o t.1 i facts t.0) new refl t.3 le (may_stand o n h t.1 t.2 k)

acted_stands : (o : FifoOptions) (n : ℕ) (h : History) (i : ℕ) (facts : PacketFacts) (r : Action) (new : History) → Acted o h i facts r new → n ≤ i → Stands o n h → Stands o (i + 1) new
acted_stands o n h i facts (action.Settle f) new e le k = subst (Stands o (i + 1)) (sym e) (stands_more o n (i + 1) h (omega (arith, le)) k)
acted_stands o n h i facts action.Write new t le k = first_stands o n h i facts new t le k
acted_stands o n h i facts action.OpenAndWrite new t le k = first_stands o n h i facts new t le k

turned_stands : (o : FifoOptions) (n : ℕ) (h : History) (t : Turn) (new : History) → Turned o h t new → n ≤ turn_index t → Stands o n h → Stands o (turn_index t + 1) new
turned_stands o n h (Comes i facts) new m le k = acted_stands o n h i facts _ new m le k
turned_stands o n h (Flushes i v) new m le k = subst (Stands o (i + 1)) (sym m) (stands_more o n (i + 1) h (omega (arith, le)) k)

runs_stand : (o : FifoOptions) (n : ℕ) (h : History) (ts : List Turn) (new : History) → InTurn n ts → Runs o h ts new → Stands o n h → Ordered o new
runs_stand o n h [] new q e k = subst (Ordered o) (sym e) k.1
runs_stand o n h (t ∷ ts) new q r k =
    runs_stand o (turn_index t + 1) r.0 ts new q.1 r.2 (turned_stands o n r.1.0 t r.0 r.1.2 q.0 (may_stand o n h r.1.0 r.1.1 k))

ordered : (o : FifoOptions) (turns : List Turn) (h : History) → InTurn 0 turns → Follows o turns h → Ordered o h
ordered o turns h q f = runs_stand o 0 f.1 turns h q f.3 (may_stand o 0 (Begun f.0 ∷ []) f.1 f.2 (tt, refl))

-- whether a call of a packet fails where a fault was noted there
abbrev at_hits : FaultAt → ℕ → Bool
at_hits Begin i = true
at_hits (Put j) i = j == i
at_hits End i = false

abbrev is_begin : FaultAt → Bool
is_begin Begin = true
is_begin (Put j) = false
is_begin End = false

abbrev hits : List (ℕ × FaultAt) → ℕ → ℕ → Bool
hits [] s i = false
hits (x ∷ xs) s i = ((x.0 == s) && at_hits x.1 i) || hits xs s i

abbrev hits_first : List (ℕ × FaultAt) → Bool
hits_first [] = false
hits_first (x ∷ xs) = ((x.0 == 0) && is_begin x.1) || hits_first xs

abbrev fault_if : Bool → Answer
fault_if true = answer.Fault
fault_if false = answer.Done

abbrev outside : List (ℕ × FaultAt) → ℕ → ℕ → Answer
outside xs s i = fault_if (hits xs s i)

or_assoc : (a b c : Bool) → (a || (b || c)) ≡ ((a || b) || c)
or_assoc true b c = refl
or_assoc false b c = refl

hits_push : (xs : List (ℕ × FaultAt)) (x : ℕ × FaultAt) (s i : ℕ) → hits (xs ++ x ∷ []) s i ≡ (hits xs s i || ((x.0 == s) && at_hits x.1 i))
hits_push [] x s i = or-false ((x.0 == s) && at_hits x.1 i)
hits_push (y ∷ xs) x s i = rw (hits_push xs x s i) (or_assoc ((y.0 == s) && at_hits y.1 i) (hits xs s i) ((x.0 == s) && at_hits x.1 i))

first_push : (xs : List (ℕ × FaultAt)) (x : ℕ × FaultAt) → hits_first (xs ++ x ∷ []) ≡ (hits_first xs || ((x.0 == 0) && is_begin x.1))
first_push [] x = or-false ((x.0 == 0) && is_begin x.1)
first_push (y ∷ xs) x = rw (first_push xs x) (or_assoc ((y.0 == 0) && is_begin y.1) (hits_first xs) ((x.0 == 0) && is_begin x.1))

places_push : (ns : List FaultNote) (n : FaultNote) → map place_of (ns ++ n ∷ []) ≡ map place_of ns ++ place_of n ∷ []
places_push ns n = map_push place_of ns n

-- the noted faults are of sessions before this one
abbrev AllBefore : ℕ → List FaultNote → Type 0
AllBefore s [] = Unit {0}
AllBefore s (n ∷ ns) = (n.session < s) × AllBefore s ns

before_push : (s : ℕ) (ns : List FaultNote) (n : FaultNote) → AllBefore s ns → n.session < s → AllBefore s (ns ++ n ∷ [])
before_push s [] n k lt = (lt, tt)
before_push s (m ∷ ns) n k lt = (k.0, before_push s ns n k.1 lt)

before_more : (s t : ℕ) (ns : List FaultNote) → s ≤ t → AllBefore s ns → AllBefore t ns
before_more s t [] le k = tt
before_more s t (n ∷ ns) le k = (omega (arith, k.0, le), before_more s t ns le k.1)

notes_before : (o : FifoOptions) (h : History) (ns : List FaultNote) → Ordered o h → wanted h ≡ false → NotesTell h ns → AllBefore (trying o h) ns
notes_before o [] ns q w k = rw k tt
notes_before o (Begun answer.Done ∷ h) ns q w k = notes_before o h ns (rw q tt) w k
notes_before o (Begun answer.NoMemory ∷ h) ns q w k = absurd (cc w)
notes_before o (Begun answer.Fault ∷ h) ns q w k =
    let none : k.0 ≡ [] = rw q at k.5 in
    let due : trying o (Begun answer.Fault ∷ h) ≡ session_of h + 1 = broken_by ((streak h + 1) == 0) _ _ (session_of h) (not_zero (streak h)) in
    rw (k.2, none) (omega (arith, k.3, due), tt)
notes_before o (Tried s i facts answer.Done ∷ h) ns q w k = subst (λ (t : ℕ). AllBefore t ns) (sym q.0) (notes_before o h ns q.2 w k)
notes_before o (Tried s i facts answer.NoMemory ∷ h) ns q w k = absurd (cc w)
notes_before o (Tried s i facts answer.Fault ∷ h) ns q w k =
    let due = due_after o s i facts h in
    let front : AllBefore s k.0 = subst (λ (t : ℕ). AllBefore t k.0) (sym q.0) (notes_before o h k.0 q.2 w k.5) in
    subst (AllBefore (trying o (Tried s i facts answer.Fault ∷ h))) (sym k.2)
    (before_push (trying o (Tried s i facts answer.Fault ∷ h)) k.0 k.1 (before_more s (trying o (Tried s i facts answer.Fault ∷ h)) k.0 (omega (arith, due)) front) (omega (arith, due, k.3)))
notes_before o (Fated i f ∷ h) ns q w k = notes_before o h ns q w k
notes_before o (Want ∷ h) ns q w k = absurd (cc w)

other_number : (s t : ℕ) → s < t → (s == t) ≡ false
other_number s t lt = grind (arith, nat_tests)

later_number : (s t : ℕ) → t < s → (s == t) ≡ false
later_number s t lt = grind (arith, nat_tests)

same_number : (s : ℕ) → (s == s) ≡ true
same_number s = grind (arith, nat_tests)

no_hits : (s i : ℕ) (ns : List FaultNote) → AllBefore s ns → hits (map place_of ns) s i ≡ false
no_hits s i [] k = refl
no_hits s i (n ∷ ns) k = rw (other_number n.session s k.0, no_hits s i ns k.1) refl

answers_same : (out other : ℕ → ℕ → Answer) (first begun : Answer) (h : History) → begun ≡ first → TriesIn (λ s i. other s i ≡ out s i) h
    → AnswersAs out first h → AnswersAs other begun h
answers_same out other first begun [] e k x = tt
answers_same out other first begun (Begun a ∷ h) e k x = (x.0 ∙ sym e, answers_same out other first begun h e k x.1)
answers_same out other first begun (Tried s i facts a ∷ h) e k x = (x.0 ∙ sym k.0, answers_same out other first begun h e k.1 x.1)
answers_same out other first begun (Fated i f ∷ h) e k x = answers_same out other first begun h e k x
answers_same out other first begun (Want ∷ h) e k x = x

-- a further note changes nothing for the tries before it
older_same : (s i current : ℕ) (n : FaultNote) (ns : List FaultNote) → n.session ≡ s → (n.at ≡ Put i) ⊎ ((n.at ≡ Begin) × (s ≢ current))
    → (t j : ℕ) → Precedes s i current t j → outside (map place_of (ns ++ n ∷ [])) t j ≡ outside (map place_of ns) t j
older_same s i current n ns e at t j k =
    let push : hits (map place_of (ns ++ n ∷ [])) t j ≡ (hits (map place_of ns) t j || ((n.session == t) && at_hits n.at j)) =
    ap (λ xs. hits xs t j) (places_push ns n) ∙ hits_push (map place_of ns) (place_of n) t j in
    let none : ((n.session == t) && at_hits n.at j) ≡ false = by k at in
    ap fault_if (push ∙ (rw none (or-false (hits (map place_of ns) t j))))
  where
    by : Precedes s i current t j → (n.at ≡ Put i) ⊎ ((n.at ≡ Begin) × (s ≢ current)) → ((n.session == t) && at_hits n.at j) ≡ false
    by (inl lt) at = rw (e, later_number s t lt) refl
    by (inr x) (inl put) = rw (put, later_number i j x.1) (and-false (n.session == t))
    by (inr x) (inr begin) = absurd (begin.1 x.0)

first_same : (o : FifoOptions) (h : History) (s i : ℕ) (n : FaultNote) (ns : List FaultNote) → s ≡ trying o h → n.session ≡ s
    → (n.at ≡ Put i) ⊎ ((n.at ≡ Begin) × (s ≢ session_of h)) → fault_if (hits_first (map place_of (ns ++ n ∷ []))) ≡ fault_if (hits_first (map place_of ns))
first_same o h s i n ns due e at =
    let push : hits_first (map place_of (ns ++ n ∷ [])) ≡ (hits_first (map place_of ns) || ((n.session == 0) && is_begin n.at)) =
    ap hits_first (places_push ns n) ∙ first_push (map place_of ns) (place_of n) in
    let none : ((n.session == 0) && is_begin n.at) ≡ false = by at in
    ap fault_if (push ∙ (rw none (or-false (hits_first (map place_of ns)))))
  where
    by : (n.at ≡ Put i) ⊎ ((n.at ≡ Begin) × (s ≢ session_of h)) → ((n.session == 0) && is_begin n.at) ≡ false
    by (inl put) = rw put (and-false (n.session == 0))
    by (inr begin) = elim (trying_is o h) [
      | inl same ↦ absurd (begin.1 (due ∙ same))
      | inr next ↦ rw (e, due, next, not_zero (session_of h)) refl
    ]

hits_here : (s i : ℕ) (n : FaultNote) (ns : List FaultNote) → n.session ≡ s → at_hits n.at i ≡ true → hits (map place_of (ns ++ n ∷ [])) s i ≡ true
hits_here s i n ns e hit =
    ap (λ xs. hits xs s i) (places_push ns n) ∙ hits_push (map place_of ns) (place_of n) s i ∙ (rw (e, same_number s, hit) (or-true (hits (map place_of ns) s i)))

put_hits : (i : ℕ) (at : FaultAt) (p : Type 0) → (at ≡ Put i) ⊎ ((at ≡ Begin) × p) → at_hits at i ≡ true
put_hits i at p (inl e) = rw e (same_number i)
put_hits i at p (inr e) = rw e.0 refl

-- the notes tell the answers
tells : (o : FifoOptions) (h : History) (ns : List FaultNote) → Ordered o h → wanted h ≡ false → NotesTell h ns
    → AnswersAs (outside (map place_of ns)) (fault_if (hits_first (map place_of ns))) h
tells o [] ns q w k = tt
tells o (Begun answer.NoMemory ∷ h) ns q w k = absurd (cc w)
tells o (Begun answer.Done ∷ h) ns q w k =
    let none : ns ≡ [] = rw q at k in
    rw (none, q) (refl, tt)
tells o (Begun answer.Fault ∷ h) ns q w k =
    let none : k.0 ≡ [] = rw q at k.5 in
    rw (k.2, none, k.3, k.4, q) (refl, tt)
tells o (Tried s i facts answer.NoMemory ∷ h) ns q w k = absurd (cc w)
tells o (Tried s i facts answer.Done ∷ h) ns q w k =
    let before : AllBefore s ns = subst (λ (t : ℕ). AllBefore t ns) (sym q.0) (notes_before o h ns q.2 w k) in
    (rw (no_hits s i ns before) refl, tells o h ns q.2 w k)
tells o (Tried s i facts answer.Fault ∷ h) ns q w k =
    let xs : AnswersAs (outside (map place_of k.0)) (fault_if (hits_first (map place_of k.0))) h = tells o h k.0 q.2 w k.5 in
    let out : AnswersAs (outside (map place_of (k.0 ++ k.1 ∷ []))) (fault_if (hits_first (map place_of (k.0 ++ k.1 ∷ [])))) h =
    answers_same (outside (map place_of k.0)) (outside (map place_of (k.0 ++ k.1 ∷ []))) _ _ h (first_same o h s i k.1 k.0 q.0 k.3 k.4)
    (tries_map (Precedes s i (session_of h)) (λ t j. outside (map place_of (k.0 ++ k.1 ∷ [])) t j ≡ outside (map place_of k.0) t j) (older_same s i (session_of h) k.1 k.0 k.3 k.4) h q.1) xs in
    let here : hits (map place_of (k.0 ++ k.1 ∷ [])) s i ≡ true = hits_here s i k.1 k.0 k.3 (put_hits i k.1.at (s ≢ session_of h) k.4) in
    subst (λ (ms : List FaultNote). (answer.Fault ≡ outside (map place_of ms) s i) × AnswersAs (outside (map place_of ms)) (fault_if (hits_first (map place_of ms))) h)
    (sym k.2) (rw here refl, out)
tells o (Fated i f ∷ h) ns q w k = tells o h ns q w k
tells o (Want ∷ h) ns q w k = absurd (cc w)

-- and so they do with that of the end
end_tells : (o : FifoOptions) (h : History) (a : Option Answer) (ns : List FaultNote) → Ordered o h → wanted h ≡ false → EndNotes h a ns
    → AnswersAs (outside (map place_of ns)) (fault_if (hits_first (map place_of ns))) h
end_tells o h None ns q w k = tells o h ns q w k
end_tells o h (Some answer.Done) ns q w k = tells o h ns q w k
end_tells o h (Some answer.NoMemory) ns q w k = tells o h ns q w k
end_tells o h (Some answer.Fault) ns q w k =
    let front = k.0 in
    let n = k.1 in
    let same : (t j : ℕ) → outside (map place_of (front ++ n ∷ [])) t j ≡ outside (map place_of front) t j =
    λ t j. ap fault_if (ap (λ xs. hits xs t j) (places_push front n) ∙ hits_push (map place_of front) (place_of n) t j
    ∙ (rw (k.4, and-false (n.session == t)) (or-false (hits (map place_of front) t j)))) in
    let first : fault_if (hits_first (map place_of (front ++ n ∷ []))) ≡ fault_if (hits_first (map place_of front)) =
    ap fault_if (ap hits_first (places_push front n) ∙ first_push (map place_of front) (place_of n)
    ∙ (rw (k.4, and-false (n.session == 0)) (or-false (hits_first (map place_of front))))) in
    rw k.2 (answers_same (outside (map place_of front)) (outside (map place_of (front ++ n ∷ []))) _ _ h first (tries_all _ same h) (tells o h front q w k.5))

-- how many faults were noted
notes_count : (o : FifoOptions) (h : History) (ns : List FaultNote) → Ordered o h → wanted h ≡ false → NotesTell h ns → length ns ≡ trying o h
notes_count o [] ns q w k = rw k refl
notes_count o (Begun answer.Done ∷ h) ns q w k = notes_count o h ns (rw q tt) w k
notes_count o (Begun answer.NoMemory ∷ h) ns q w k = absurd (cc w)
notes_count o (Begun answer.Fault ∷ h) ns q w k =
    let none : k.0 ≡ [] = rw q at k.5 in
    let start : session_of h ≡ 0 = rw q refl in
    let due : trying o (Begun answer.Fault ∷ h) ≡ session_of h + 1 = broken_by ((streak h + 1) == 0) _ _ (session_of h) (not_zero (streak h)) in
    let one : length ns ≡ 1 = rw (k.2, none) refl in
    omega (arith, one, due, start)
notes_count o (Tried s i facts answer.Done ∷ h) ns q w k = notes_count o h ns q.2 w k ∙ sym q.0
notes_count o (Tried s i facts answer.NoMemory ∷ h) ns q w k = absurd (cc w)
notes_count o (Tried s i facts answer.Fault ∷ h) ns q w k =
    let due = due_after o s i facts h in
    let front = notes_count o h k.0 q.2 w k.5 in
    let all : length ns ≡ length k.0 + 1 = ap length k.2 ∙ length-append k.0 (k.1 ∷ []) in
    omega (arith, due, front, all, q.0)
notes_count o (Fated i f ∷ h) ns q w k = notes_count o h ns q w k
notes_count o (Want ∷ h) ns q w k = absurd (cc w)

-- each of these sessions ended at a fault that is noted
abbrev AllNoted : List Row → Type 0
AllNoted [] = Unit {0}
AllNoted (r ∷ rs) = ((n : FaultNote) × (r.fault ≡ Some n)) × AllNoted rs

fewer_noted : (rs : List Row) → length (filter_map row_fault rs) ≤ length rs
fewer_noted [] = omega arith
fewer_noted (r ∷ rs) = by r.fault refl (fewer_noted rs)
  where
    by : (f : Option FaultNote) → r.fault ≡ f → length (filter_map row_fault rs) ≤ length rs → length (filter_map row_fault (r ∷ rs)) ≤ length (r ∷ rs)
    by None e less = rw e (omega (arith, less))
    by (Some n) e less = rw e (omega (arith, less))

all_noted : (rs : List Row) → length (filter_map row_fault rs) ≡ length rs → AllNoted rs
all_noted [] e = tt
all_noted (r ∷ rs) e = by r.fault refl (all_noted rs)
  where
    by : (f : Option FaultNote) → r.fault ≡ f → (length (filter_map row_fault rs) ≡ length rs → AllNoted rs) → AllNoted (r ∷ rs)
    by None is more = (let less = fewer_noted rs in let m : length (filter_map row_fault rs) ≡ length (r ∷ rs) = rw is at e in absurd (omega (arith, less, m)))
    by (Some n) is more = (let m : suc (length (filter_map row_fault rs)) ≡ length (r ∷ rs) = rw is at e in ((n, is), more (omega (arith, m))))

-- what a session's note says is told by the call at which it ended
same_flags : (g f : Origin) (A B : ℕ → Packet → Type 0) (r q : Row) (a b : FaultAt) → LeftBy g A r r.outcome → LeftBy f B q q.outcome → IsAt r.outcome a → IsAt q.outcome b → a ≡ b
    → (r.note.begun ≡ q.note.begun) × (r.note.closed ≡ q.note.closed)
same_flags g f A B r q a b left right x y e = by r.outcome q.outcome left right x y
  where
    by : (m n : Outcome) → LeftBy g A r m → LeftBy f B q n → IsAt m a → IsAt n b → (r.note.begun ≡ q.note.begun) × (r.note.closed ≡ q.note.closed)
    by Open n l k x y = absurd x
    by NotCalled n l k x y = absurd x
    by Closed n l k x y = absurd x
    by NotBegun Open l k x y = absurd y
    by NotBegun NotCalled l k x y = absurd y
    by NotBegun Closed l k x y = absurd y
    by NotBegun NotBegun l k x y = (l.0 ∙ sym k.0, l.1 ∙ sym k.1)
    by NotBegun (PutFailed i p) l k x y = (let z : Begin ≡ Put i = sym x ∙ e ∙ y in absurd (cc z))
    by NotBegun EndFailed l k x y = (let z : Begin ≡ End = sym x ∙ e ∙ y in absurd (cc z))
    by (PutFailed i p) Open l k x y = absurd y
    by (PutFailed i p) NotCalled l k x y = absurd y
    by (PutFailed i p) Closed l k x y = absurd y
    by (PutFailed i p) NotBegun l k x y = (let z : Put i ≡ Begin = sym x ∙ e ∙ y in absurd (cc z))
    by (PutFailed i p) (PutFailed j u) l k x y = (l.0 ∙ sym k.0, l.1 ∙ sym k.1)
    by (PutFailed i p) EndFailed l k x y = (l.0 ∙ sym k.0, l.1 ∙ sym k.1)
    by EndFailed Open l k x y = absurd y
    by EndFailed NotCalled l k x y = absurd y
    by EndFailed Closed l k x y = absurd y
    by EndFailed NotBegun l k x y = (let z : End ≡ Begin = sym x ∙ e ∙ y in absurd (cc z))
    by EndFailed (PutFailed i p) l k x y = (l.0 ∙ sym k.0, l.1 ∙ sym k.1)
    by EndFailed EndFailed l k x y = (l.0 ∙ sym k.0, l.1 ∙ sym k.1)

same_note : (m n : SessionNote) → m.number ≡ n.number → m.begun ≡ n.begun → m.closed ≡ n.closed → m ≡ n
same_note m n a b c = rw (a, b, c) refl

-- so sessions that ended at the same calls are the same
same_sessions : (g f : Origin) (A B : ℕ → Packet → Type 0) (n : ℕ) (rs qs : List Row) → AllNoted rs → AllNoted qs → Numbered n rs → Numbered n qs → AllRows g A rs → AllRows f B qs
    → map place_of (filter_map row_fault rs) ≡ map place_of (filter_map row_fault qs) → map row_note rs ≡ map row_note qs
same_sessions g f A B n [] [] a b c d x y e = refl
same_sessions g f A B n [] (q ∷ qs) a b c d x y e = (let z : [] ≡ place_of b.0.0 ∷ map place_of (filter_map row_fault qs) = rw b.0.1 at e in absurd (cc z))
same_sessions g f A B n (r ∷ rs) [] a b c d x y e = (let z : place_of a.0.0 ∷ map place_of (filter_map row_fault rs) ≡ [] = rw a.0.1 at e in absurd (cc z))
same_sessions g f A B n (r ∷ rs) (q ∷ qs) a b c d x y e =
    let z : place_of a.0.0 ∷ map place_of (filter_map row_fault rs) ≡ place_of b.0.0 ∷ map place_of (filter_map row_fault qs) = rw (a.0.1, b.0.1) at e in
    let head : place_of a.0.0 ≡ place_of b.0.0 = cc z in
    let tail : map place_of (filter_map row_fault rs) ≡ map place_of (filter_map row_fault qs) = cc z in
    let at : a.0.0.at ≡ b.0.0.at = ap (λ (p : ℕ × FaultAt). p.1) head in
    let left : IsAt r.outcome a.0.0.at = (rw a.0.1 at x.0.1).1 in
    let right : IsAt q.outcome b.0.0.at = (rw b.0.1 at y.0.1).1 in
    let flags = same_flags g f A B r q a.0.0.at b.0.0.at x.0.0 y.0.0 left right at in
    let one : r.note ≡ q.note = same_note r.note q.note (c.0 ∙ sym d.0) flags.0 flags.1 in
    let more : map row_note rs ≡ map row_note qs = same_sessions g f A B (n + 1) rs qs a.1 b.1 c.1 d.1 x.1 y.1 tail in
    rw (one, more) refl

-- what an end tells of its turns, its sessions and its notes
record Plain (o : FifoOptions) (turns : List Turn) (L : List Packet) (e : EndView) : Type 0 where
  history : History
  follows : Follows o turns history
  end_answer : Option Answer
  end_called : is_some end_answer ≡ is_live o history
  state : e.state ≡ end_of history end_answer
  fates : expand e.fates ≡ fates_of history
  origin : Origin
  rows : List Row
  front : List Row
  last : Row
  split : rows ≡ front ++ last ∷ []
  numbered : Numbered 0 rows
  number : last.note.number ≡ session_of history
  ends_as : EndsAs history end_answer last
  are_sessions : e.sessions ≡ map row_note rows
  are_faults : e.faults ≡ filter_map row_fault rows
  each : AllRows origin (StandsAt L) rows
  notes : EndNotes history end_answer e.faults

turns_in : (g : Origin) (n : ℕ) (L : List Packet) → InTurn n (turns_from g n L)
turns_in g n [] = tt
turns_in g n (p ∷ L) = (omega arith, turns_in g (n + 1) L)

-- where nothing was refused or flushed, the packets came one after another
all_sent : (T : List Given) (n : ℕ) (L : List Packet) → PassedOn T (messages_from [] n L) → ((i v : ℕ) → SweptAt T i v → ⊥) → T ≡ sent_from n L
all_sent [] n [] k no_swept = refl
all_sent [] n (p ∷ L) k no_swept = absurd k
all_sent (t ∷ T) n [] k no_swept = absurd (none t k)
  where
    none : (t : Given) → PassedOn (t ∷ T) [] → ⊥
    none (Sent i q) k = k
    none (Swept i v) k = k
all_sent (Swept i v ∷ T) n (p ∷ L) k no_swept = absurd (no_swept i v (inl (refl, refl)))
all_sent (Sent i q ∷ T) n (p ∷ L) k no_swept = (let rest = all_sent T (n + 1) L k.2 no_swept in rw (k.0, k.1, rest) refl)

kept_all : (xs : List (ℕ × Fate)) → unrefused [] xs ≡ xs
kept_all [] = refl
kept_all (x ∷ xs) = ap (λ ys. x ∷ ys) (kept_all xs)

plain_here : (g : Origin) (o : FifoOptions) (L : List Packet) (e : EndView) → Ended g o L (record e { inline = false }) → Plain o (turns_from g 0 L) L e
plain_here g o L e k = record {
  history = k.history;
  follows = k.follows;
  end_answer = k.end_answer;
  end_called = k.end_called;
  state = k.state;
  fates = k.fates;
  origin = g;
  rows = k.rows;
  front = k.front;
  last = k.last;
  split = k.split;
  numbered = k.numbered;
  number = k.number;
  ends_as = k.ends_as;
  are_sessions = k.are_sessions;
  are_faults = k.are_faults;
  each = k.each;
  notes = k.notes;
}

plain_there : (g : Origin) (o : FifoOptions) (L : List Packet) (e : EndView) → EndsUnrefused g o L e → Plain o (turns_from g 0 L) L e
plain_there g o L e b =
    let k = b.ended in
    let none_refused : b.note.receipts.items ≡ [] = b.blocks in
    let no_swept : (i v : ℕ) → SweptAt b.turns i v → ⊥ = λ i v x. (let s = b.dealt.stretches i v x in
    let seen = (b.dealt.seen s.1.place (v, length s.1.front) s.1.seen).0 in
    let zero_refused : length b.note.receipts.items ≡ 0 = ap length none_refused in
    omega (arith, s.0, seen, zero_refused)) in
    let sent : b.turns ≡ sent_from 0 L = all_sent b.turns 0 L (subst (λ (rs : List ReceiptSide). PassedOn b.turns (messages_from rs 0 L)) none_refused b.dealt.passed) no_swept in
    let turns : map (turn_of g) b.turns ≡ turns_from g 0 L = ap (map (turn_of g)) sent ∙ sent_turns g 0 L in
    let same = b.adds.same none_refused in
    let fates : expand e.fates ≡ fates_of k.history =
    sym (kept_all (expand e.fates)) ∙ ap (λ (rs : List ReceiptSide). unrefused rs (expand e.fates)) (sym none_refused) ∙ unrefused_follow g o L b.turns b.numbers b.note b.left e b.short k b.dealt b.adds in
    let state : e.state ≡ b.left.state = b.adds.state ∙ rw same.1 refl in
    record {
      history = k.history;
      follows = subst (λ (ts : List Turn). Follows o ts k.history) turns k.follows;
      end_answer = k.end_answer;
      end_called = k.end_called;
      state = state ∙ k.state;
      fates = fates;
      origin = g;
      rows = k.rows;
      front = k.front;
      last = k.last;
      split = k.split;
      numbered = k.numbered;
      number = k.number;
      ends_as = k.ends_as;
      are_sessions = b.adds.sessions ∙ k.are_sessions;
      are_faults = b.adds.faults ∙ k.are_faults;
      each = rows_other g (Gives b.turns) (StandsAt L) k.rows (λ i p x. b.dealt.packets i p x) k.each;
      notes = subst (EndNotes k.history k.end_answer) (sym b.adds.faults) k.notes;
    }

plain_of : (g : Origin) (o : FifoOptions) (L : List Packet) (e : EndView) → EndsBlocking g o L e → Plain o (turns_from g 0 L) L e
plain_of g o L e (inl k) = plain_here g o L e k
plain_of g o L e (inr k) = plain_there g o L e k

unwanted_by : (w : Bool) (l : Bool) (h : History) (a : Option Answer) → wanted h ≡ w → is_some a ≡ (not w && l) → end_of h a ≢ ends.NoMemory → wanted h ≡ false
unwanted_by false l h a w e other = w
unwanted_by true l h (Some a) w e other = absurd (cc e)
unwanted_by true l h None w e other = absurd (other (rw w refl))

live_by : (w : Bool) (l : Bool) → w ≡ false → (not w && l) ≡ true → l ≡ true
live_by true l w e = absurd (cc w)
live_by false l w e = e

gone_by : (w : Bool) (l : Bool) → w ≡ false → (not w && l) ≡ false → l ≡ false
gone_by true l w e = absurd (cc w)
gone_by false l w e = e

-- what follows from the notes of an end that wanted no memory
module _ {o : FifoOptions} {turns : List Turn} {L : List Packet} {e : EndView} (k : Plain o turns L e) (q : InTurn 0 turns) (other : e.state ≢ ends.NoMemory) where
  unwanted : wanted k.history ≡ false
  unwanted = unwanted_by (wanted k.history) (mode_is_live (mode_of o k.history)) k.history k.end_answer refl k.end_called (λ x. other (k.state ∙ x))

  in_order : Ordered o k.history
  in_order = ordered o turns k.history q k.follows

  answers : AnswersAs (outside (map place_of e.faults)) (fault_if (hits_first (map place_of e.faults))) k.history
  answers = end_tells o k.history k.end_answer e.faults in_order unwanted k.notes

  count : length k.rows ≡ session_of k.history + 1
  count =
      let at : k.last.note.number ≡ 0 + length k.front = numbered_last 0 k.front k.last (subst (Numbered 0) k.split k.numbered) in
      let all : length k.rows ≡ length k.front + 1 = ap length k.split ∙ length-append k.front (k.last ∷ []) in
      omega (arith, at, all, k.number)

  due_live : mode_is_live (mode_of o k.history) ≡ true → trying o k.history ≡ session_of k.history
  due_live e = rw e refl

  due_gone : mode_is_live (mode_of o k.history) ≡ false → trying o k.history ≡ session_of k.history + 1
  due_gone e = rw e refl

  -- every session ended at a fault, unless the last was closed
  noted : (a : Option Answer) → k.end_answer ≡ a → ((a ≡ Some answer.Done) ⊎ AllNoted k.rows)
  noted None is =
      let gone = gone_by (wanted k.history) (mode_is_live (mode_of o k.history)) unwanted (sym k.end_called ∙ rw is refl) in
      let n = notes_count o k.history e.faults in_order unwanted (rw is at k.notes) in
      inr (all_noted k.rows (sym (ap length k.are_faults) ∙ n ∙ due_gone gone ∙ sym count))
  noted (Some answer.Done) is = inl refl
  noted (Some answer.NoMemory) is = absurd (other (k.state ∙ rw is refl))
  noted (Some answer.Fault) is =
      let live = live_by (wanted k.history) (mode_is_live (mode_of o k.history)) unwanted (sym k.end_called ∙ rw is refl) in
      let x : EndNotes k.history (Some answer.Fault) e.faults = rw is at k.notes in
      let n = notes_count o k.history x.0 in_order unwanted x.5 in
      let all : length e.faults ≡ length x.0 + 1 = ap length x.2 ∙ length-append x.0 (x.1 ∷ []) in
      let due = due_live live in
      let faults : length e.faults ≡ length (filter_map row_fault k.rows) = ap length k.are_faults in
      inr (all_noted k.rows (omega (arith, n, all, due, count, faults)))

  -- how many notes there are where the last session was closed
  count_closed : k.end_answer ≡ Some answer.Done → length e.faults ≡ session_of k.history
  count_closed is =
      let live = live_by (wanted k.history) (mode_is_live (mode_of o k.history)) unwanted (sym k.end_called ∙ rw is refl) in
      notes_count o k.history e.faults in_order unwanted (rw is at k.notes) ∙ due_live live

  count_noted : AllNoted k.rows → length e.faults ≡ session_of k.history + 1
  count_noted all = ap length k.are_faults ∙ sym (every k.rows all) ∙ count
    where
      every : (rs : List Row) → AllNoted rs → length rs ≡ length (filter_map row_fault rs)
      every [] x = refl
      every (r ∷ rs) x = rw x.0.1 (ap suc (every rs x.1))

  -- where the last session was closed, the ones before ended at a fault
  closed_last : k.end_answer ≡ Some answer.Done → (k.last.fault ≡ None) × (k.last.note.begun ≡ true) × (k.last.note.closed ≡ true)
  closed_last is =
      let out : k.last.outcome ≡ Closed = rw is at k.ends_as in
      let holds : RowHolds k.origin (StandsAt L) k.last = rows_last k.origin (StandsAt L) k.front k.last (subst (AllRows k.origin (StandsAt L)) k.split k.each) in
      let left : LeftBy k.origin (StandsAt L) k.last Closed = subst (LeftBy k.origin (StandsAt L) k.last) out holds.0 in
      (no_note k.last.fault refl out holds, left.0, left.1)
    where
      no_note : (f : Option FaultNote) → k.last.fault ≡ f → k.last.outcome ≡ Closed → RowHolds k.origin (StandsAt L) k.last → k.last.fault ≡ None
      no_note None is out holds = is
      no_note (Some n) is out holds = (let fits = rw is at holds.1 in absurd (rw out at fits.1))

  front_noted : k.end_answer ≡ Some answer.Done → AllNoted k.front
  front_noted is =
      let same : filter_map row_fault k.rows ≡ filter_map row_fault k.front = ap (filter_map row_fault) k.split ∙ faults_push_none k.front k.last (closed_last is).0 in
      let n = count_closed is in
      let all : length k.rows ≡ length k.front + 1 = ap length k.split ∙ length-append k.front (k.last ∷ []) in
      let faults : length e.faults ≡ length (filter_map row_fault k.front) = ap length (k.are_faults ∙ same) in
      all_noted k.front (omega (arith, n, all, count, faults))

-- the muxer's end answered alike
same_answer : (b c : Option Answer) → is_some b ≡ is_some c → ((b ≡ Some answer.Done) → (c ≡ Some answer.Fault) → ⊥) → ((b ≡ Some answer.Fault) → (c ≡ Some answer.Done) → ⊥)
    → ((b ≡ Some answer.NoMemory) → ⊥) → ((c ≡ Some answer.NoMemory) → ⊥) → b ≡ c
same_answer None None e p q r t = refl
same_answer None (Some c) e p q r t = absurd (cc e)
same_answer (Some b) None e p q r t = absurd (cc e)
same_answer (Some answer.NoMemory) (Some c) e p q r t = absurd (r refl)
same_answer (Some answer.Done) (Some answer.NoMemory) e p q r t = absurd (t refl)
same_answer (Some answer.Fault) (Some answer.NoMemory) e p q r t = absurd (t refl)
same_answer (Some answer.Done) (Some answer.Done) e p q r t = refl
same_answer (Some answer.Fault) (Some answer.Fault) e p q r t = refl
same_answer (Some answer.Done) (Some answer.Fault) e p q r t = absurd (p refl refl)
same_answer (Some answer.Fault) (Some answer.Done) e p q r t = absurd (q refl refl)

places_length : (ms ns : List FaultNote) → map place_of ms ≡ map place_of ns → length ms ≡ length ns
places_length [] [] e = refl
places_length [] (n ∷ ns) e = absurd (cc e)
places_length (m ∷ ms) [] e = absurd (cc e)
places_length (m ∷ ms) (n ∷ ns) e = (let tail : map place_of ms ≡ map place_of ns = cc e in ap suc (places_length ms ns tail))

noted_unless : {A : Type 0} (b : Option Answer) → ((b ≡ Some answer.Done) ⊎ A) → ((b ≡ Some answer.Done) → ⊥) → A
noted_unless b (inl e) other = absurd (other e)
noted_unless b (inr x) other = x

not_done : (b : Option Answer) → (b ≡ Some answer.Done) ⊎ ((b ≡ Some answer.Done) → ⊥)
not_done None = inr (λ e. cc e)
not_done (Some answer.Done) = inl refl
not_done (Some answer.Fault) = inr (λ e. cc e)
not_done (Some answer.NoMemory) = inr (λ e. cc e)

module _ {o : FifoOptions} {turns : List Turn} {L : List Packet} {d e : EndView} (k : Plain o turns L d) (m : Plain o turns L e) (q : InTurn 0 turns)
    (one : d.state ≢ ends.NoMemory) (two : e.state ≢ ends.NoMemory) (same : map place_of d.faults ≡ map place_of e.faults) where
  same_history : k.history ≡ m.history
  same_history =
      is_determined o turns (outside (map place_of d.faults)) (fault_if (hits_first (map place_of d.faults))) k.history m.history k.follows m.follows
      (answers k q one)
      (subst (λ (xs : List (ℕ × FaultAt)). AnswersAs (outside xs) (fault_if (hits_first xs)) m.history) (sym same) (answers m q two))

  lengths : length d.faults ≡ length e.faults
  lengths = places_length d.faults e.faults same

  sessions_are : session_of k.history ≡ session_of m.history
  sessions_are = ap session_of same_history

  same_end : k.end_answer ≡ m.end_answer
  same_end =
      same_answer k.end_answer m.end_answer (k.end_called ∙ ap (is_live o) same_history ∙ sym m.end_called)
      (λ x y. (let a = count_closed k q one x in
      let b = count_noted m q two (noted_unless m.end_answer (noted m q two m.end_answer refl) (λ z. (let w : Some answer.Fault ≡ Some answer.Done = sym y ∙ z in cc w))) in
      omega (arith, a, b, lengths, sessions_are)))
      (λ x y. (let a = count_closed m q two y in
      let b = count_noted k q one (noted_unless k.end_answer (noted k q one k.end_answer refl) (λ z. (let w : Some answer.Fault ≡ Some answer.Done = sym x ∙ z in cc w))) in
      omega (arith, a, b, lengths, sessions_are)))
      (λ x. one (k.state ∙ rw x refl))
      (λ x. two (m.state ∙ rw x refl))

  same_fates : expand d.fates ≡ expand e.fates
  same_fates = k.fates ∙ ap fates_of same_history ∙ sym m.fates

  same_state : d.state ≡ e.state
  same_state = k.state ∙ rw (same_history, same_end) (sym m.state)

  places_noted : map place_of (filter_map row_fault k.rows) ≡ map place_of (filter_map row_fault m.rows)
  places_noted = ap (map place_of) (sym k.are_faults) ∙ same ∙ ap (map place_of) m.are_faults

  notes_same : map row_note k.rows ≡ map row_note m.rows
  notes_same = elim (not_done k.end_answer) [
    | inl x ↦ by_closed x (sym same_end ∙ x)
    | inr x ↦ same_sessions k.origin m.origin (StandsAt L) (StandsAt L) 0 k.rows m.rows
        (noted_unless k.end_answer (noted k q one k.end_answer refl) x)
        (noted_unless m.end_answer (noted m q two m.end_answer refl) (λ y. x (same_end ∙ y)))
        k.numbered m.numbered k.each m.each places_noted
  ]
    where
      by_closed : k.end_answer ≡ Some answer.Done → m.end_answer ≡ Some answer.Done → map row_note k.rows ≡ map row_note m.rows
      by_closed x y =
          let a = closed_last k q one x in
          let b = closed_last m q two y in
          let left : filter_map row_fault k.rows ≡ filter_map row_fault k.front = ap (filter_map row_fault) k.split ∙ faults_push_none k.front k.last a.0 in
          let right : filter_map row_fault m.rows ≡ filter_map row_fault m.front = ap (filter_map row_fault) m.split ∙ faults_push_none m.front m.last b.0 in
          let fronts : map row_note k.front ≡ map row_note m.front =
          same_sessions k.origin m.origin (StandsAt L) (StandsAt L) 0 k.front m.front (front_noted k q one x) (front_noted m q two y)
          (numbered_front 0 k.front k.last (subst (Numbered 0) k.split k.numbered)) (numbered_front 0 m.front m.last (subst (Numbered 0) m.split m.numbered))
          (rows_front k.origin (StandsAt L) k.front k.last (subst (AllRows k.origin (StandsAt L)) k.split k.each)) (rows_front m.origin (StandsAt L) m.front m.last (subst (AllRows m.origin (StandsAt L)) m.split m.each))
          (ap (map place_of) (sym left) ∙ places_noted ∙ ap (map place_of) right) in
          let lasts : k.last.note ≡ m.last.note = same_note k.last.note m.last.note (k.number ∙ sessions_are ∙ sym m.number) (a.1 ∙ sym b.1) (a.2 ∙ sym b.2) in
          ap (map row_note) k.split ∙ map_push row_note k.front k.last
          ∙ rw (fronts, lasts) (sym (ap (map row_note) m.split ∙ map_push row_note m.front m.last))

pub faults_decide : FaultsDecide
faults_decide g s o L d e b c one two same =
    let k = plain_of g o L d b in
    let m : Plain o (turns_from g 0 L) L e = subst (λ (ts : List Turn). Plain o ts L e) (turns_same g s 0 L) (plain_of (record g { shelf = s }) o L e c) in
    let q = turns_in g 0 L in
    (same_fates k m q one two same, k.are_sessions ∙ notes_same k m q one two same ∙ sym m.are_sessions, same_state k m q one two same)
  where
    -- what the machine is told of a packet has nothing of the shelf
    turns_same : (g : Origin) (s : ShelfState) (n : ℕ) (L : List Packet) → turns_from (record g { shelf = s }) n L ≡ turns_from g n L
    turns_same g s n [] = refl
    turns_same g s n (p ∷ L) = ap (λ (ts : List Turn). Comes n (facts_of g p) ∷ ts) (turns_same g s (n + 1) L)
