-- The rule of the lane, and what each of its steps tells.
-- Word 0 counts the got, word 1 the given, and word 2 the refusals. Word 3 is 1 once the giver closed, and word 4 once the taker failed.
-- The message number j lies in the slot j % n.
use Rattle.std.specs.Prelude.{◌≡◌, ◌⊎◌, ℕ, zero, suc, ◌+◌, ◌%◌, ◌^◌, ◌<◌, ◌≤◌, List, [], ◌∷◌, ◌++◌, length, take as front, sum_by, Bool, true, false, Option, Some, None}
use mathlib.Core.List.{IsPrefix}
use mathlib.Core.Option.{some}
use mathlib.Core.Option as maybe
use lib.ListN.{get_elem?}
use Rattle.atomic_table.specs.Table.{State, Me, Step, rest}
use Rattle.lane.specs.Sight.{Giving, Taking, Refusal, GiverView, TakerView, Sight, both, giver, taker, settled, spent}
use Rattle.lane_core.specs.Machine.{Reply, Machine, Bounds, waiting as left, is_full}
use Rattle.lane.specs.Past.{Past, Runs, giver_side, taker_side, Tale}
use Rattle.lane_core.specs.Machine as machine
use Rattle.lane.specs.declared.view.View.{View}

-- the size of a message in bytes, and the most bytes that wait in a lane that is for k (0: any number)
pub record Measure (T K : Type 0) : Type 0 where
  pub size : T → ℕ
  pub limit : K → ℕ

-- the bounds of a lane of n slots
abbrev pub bounds : {T K : Type 0} → Measure T K → ℕ → K → Bounds
bounds w n k = record { cap = n; limit = w.limit k }

abbrev pub one_if : Bool → ℕ
one_if true = 1
one_if false = 0

abbrev pub one_for : {T : Type 0} → Option T → ℕ
one_for (Some x) = 1
one_for None = 0

module _ {T K : Type 0} where
  abbrev pub idle : K → List T → ℕ → Giving T K
  idle k given seen = record { about = k; given = given; seen = seen; holds = None }

  abbrev pub filling : ℕ → K → List T → ℕ → Giving T K
  filling z k given seen = record { about = k; given = given; seen = seen; holds = Some z }

  abbrev pub resting : K → List T → ℕ → Taking T K
  resting k got seen = record { about = k; got = got; seen = seen; hand = None }

  abbrev pub emptying : K → List T → ℕ → T → Taking T K
  emptying k got seen x = record { about = k; got = got; seen = seen; hand = Some x }

  abbrev pub view_of : Sight T K → View T K
  view_of s = record { marker = record {}; sight = s }

-- The rule of the messages, for a lane of n slots that is for k
pub record Kept {T K : Type 0} (follows : K → List T → T → Type 0) (w : Measure T K) (n : ℕ) (k : K) (homes : List (maybe.Option (Option T))) (g : Giving T K) (t : Taking T K) : Type 0 where
  pub some_slot : 0 < n
  pub size : length homes ≡ n
  pub small : length g.given ≤ 2 ^ 61
  pub abouts : (g.about ≡ k) × (t.about ≡ k)
  pub waiting : List T
  pub prefix : g.given ≡ t.got ++ waiting
  pub within : length waiting ≤ n
  pub head_seen : g.seen ≤ length t.got
  pub tail_seen : t.seen ≤ length g.given
  pub full : (j : ℕ) (x : T) → get_elem? g.given j ≡ some x → length t.got + one_for t.hand ≤ j → get_elem? homes (j % n) ≡ some (some (Some x))
  pub in_hand : (x : T) → t.hand ≡ Some x → get_elem? g.given (length t.got) ≡ some x
  pub empty : (j : ℕ) → length g.given + one_for g.holds ≤ j → j < length t.got + n → get_elem? homes (j % n) ≡ some (some None)
  pub near : length g.given ≤ g.seen + n
  pub room : (z : ℕ) → g.holds ≡ Some z → is_full w.size (bounds w n k) g.given g.seen z ≡ false
  pub in_order : (front back : List T) (x : T) → g.given ≡ front ++ x ∷ back → follows k front x

-- The rule of the refusals: `sent` were given, of which the giver saw `seen` to be taken. Each was full for its message
pub record Refused {T : Type 0} (size : T → ℕ) (b : Bounds) (over : ℕ) (sent : List T) (seen : ℕ) (refusals : List (Refusal T)) (owes : Bool) (numbers : List (ℕ × ℕ)) : Type 0 where
  pub counted : over + one_if owes ≡ length refusals
  pub few : length refusals ≤ 2 ^ 61
  pub each : (i : ℕ) (r : Refusal T) → get_elem? refusals i ≡ some r → (r.accepted ≤ length sent) × (r.head ≤ seen) × (r.bytes ≡ sum_by size (left (front r.accepted sent) r.head))
      × ((x : T) → r.item ≡ Some x → is_full size b (front r.accepted sent) r.head (size x) ≡ true)
  pub rising : (i j : ℕ) (r s : Refusal T) → i ≤ j → get_elem? refusals i ≡ some r → get_elem? refusals j ≡ some s → r.head ≤ s.head
  pub known : (i : ℕ) (p : ℕ × ℕ) → get_elem? numbers i ≡ some p → (p.0 ≤ over) × ((v : ℕ) (r : Refusal T) → p.0 ≡ v + 1 → get_elem? refusals v ≡ some r → r.head ≤ p.1)

-- The rule of how both end
pub record Ending {T : Type 0} (given got : List T) (holds : Option ℕ) (owes closed : Bool) (asked : ℕ) (told : Option ℕ) (saw_closed ended failed : Bool) : Type 0 where
  pub quiet : closed ≡ true → (holds ≡ None) × (owes ≡ false)
  pub saw : saw_closed ≡ true → closed ≡ true
  pub whole : ended ≡ true → (closed ≡ true) × (got ≡ given)
  pub told_is : (v : ℕ) → told ≡ Some v → (failed ≡ true) × (0 < v) × (v ≤ asked)

module _ {T K : Type 0} where
  abbrev pub RefusedAt : Measure T K → ℕ → K → ℕ → GiverView T K → TakerView T K → Type 0
  RefusedAt w n k over g t = Refused w.size (bounds w n k) over g.flow.given g.flow.seen g.refusals g.owes t.numbers

  abbrev pub EndingAt : GiverView T K → TakerView T K → Type 0
  EndingAt g t = Ending g.flow.given t.flow.got g.flow.holds g.owes g.closed g.asked g.told t.saw_closed t.ended t.failed

  -- the state of the machine
  abbrev pub shown : GiverView T K → TakerView T K → Machine T
  shown g t = record { given = g.flow.given; taken = length t.flow.got; over = length g.refusals; closed = g.closed; failed = t.failed }

  abbrev pub TaleAt : Measure T K → ℕ → K → GiverView T K → TakerView T K → Type 0
  TaleAt w n k g t = Tale w.size (bounds w n k) (shown g t) g.past t.past t.looking

  abbrev pub words_of : ℕ → GiverView T K → TakerView T K → List ℕ
  words_of over g t = length t.flow.got ∷ length g.flow.given ∷ over ∷ one_if g.closed ∷ one_if t.failed ∷ []

  -- how the seats stand: one, then two, then one and a spent one
  abbrev pub Arranged : GiverView T K → TakerView T K → List (View T K) → Type 0
  Arranged g t views = (views ≡ view_of (both g t) ∷ []) ⊎ ((views ≡ view_of (giver g) ∷ view_of (taker t) ∷ []) ⊎ (views ≡ view_of (settled g t) ∷ view_of spent ∷ []))

pub record Parts {T K : Type 0} (follows : K → List T → T → Type 0) (w : Measure T K) (n : ℕ) (k : K) (homes : List (maybe.Option (Option T))) (over : ℕ) (g : GiverView T K) (t : TakerView T K) : Type 0 where
  pub kept : Kept follows w n k homes g.flow t.flow
  pub refused : RefusedAt w n k over g t
  pub ending : EndingAt g t
  pub tale : TaleAt w n k g t

pub record Stands {T K : Type 0} (follows : K → List T → T → Type 0) (w : Measure T K) (k : K) (s : State (Option T) (View T K)) : Type 0 where
  pub n : ℕ
  pub over : ℕ
  pub g : GiverView T K
  pub t : TakerView T K
  pub words_are : s.words ≡ words_of over g t
  pub seats : Arranged g t s.views
  pub parts : Parts follows w n k s.homes over g t

module _ {T K : Type 0} where
  abbrev pub new_giver : K → GiverView T K
  new_giver k = record { flow = idle k [] 0; refusals = []; owes = false; closed = false; asked = 0; told = None; past = [] }

  abbrev pub new_taker : K → TakerView T K
  new_taker k = record { flow = resting k [] 0; numbers = []; saw_closed = false; ended = false; failed = false; looking = false; past = [] }

  abbrev pub opened : K → View T K
  opened k = view_of (both (new_giver k) (new_taker k))

abbrev pub size_for : {T : Type 0} → (T → ℕ) → Option T → ℕ
size_for size (Some x) = size x
size_for size None = 0

abbrev pub item_of : {T : Type 0} → Option T → List T
item_of (Some x) = x ∷ []
item_of None = []

-- what lies in the slot that was taken last
abbrev pub item : {T : Type 0} → List (ℕ × Option T) → List T
item [] = []
item (c ∷ cs) = item_of c.1

-- The first question that was answered by a failure
abbrev pub told_by : Option ℕ → ℕ → ℕ → Option ℕ
told_by (Some v) asked n = Some v
told_by None asked zero = None
told_by None asked (suc n) = Some asked

abbrev pub flip : Bool → Bool
flip true = false
flip false = true

-- What the events add to a past
abbrev pub tell_refused : {T : Type 0} → Option T → ℕ → Past T → Past T
tell_refused (Some x) v p = (machine.offer x, machine.refused v) ∷ p
tell_refused None v p = p

abbrev pub tell_given : {T : Type 0} → List T → Past T → Past T
tell_given [] p = p
tell_given (x ∷ xs) p = (machine.offer x, machine.accepted) ∷ p

abbrev pub tell_got : {T : Type 0} → Option T → Past T → Past T
tell_got (Some x) p = (machine.take, machine.got x) ∷ p
tell_got None p = p

abbrev pub no_message : {T : Type 0} → Bool → Reply T
no_message true = machine.ended
no_message false = machine.empty

abbrev pub is_set : ℕ → Bool
is_set zero = false
is_set (suc n) = true

-- What a step tells, of the step, the seat before, the number found and the seat after
abbrev Sat : Type 0 → Type 0 → Type 0
Sat T K = Me (Option T) (View T K)

module _ {T K : Type 0} where
  abbrev pub IsGiver : Sat T K → GiverView T K → List (ℕ × Option T) → Type 0
  IsGiver m g carried = m ≡ (view_of (giver g), carried)

  abbrev pub IsTaker : Sat T K → TakerView T K → List (ℕ × Option T) → Type 0
  IsTaker m t carried = m ≡ (view_of (taker t), carried)

  abbrev pub AtGiver : (GiverView T K → Type 0) → Sight T K → Type 0
  AtGiver P (giver g) = P g
  AtGiver P (both g t) = Unit {0}
  AtGiver P (taker t) = Unit {0}
  AtGiver P (settled g t) = Unit {0}
  AtGiver P spent = Unit {0}

  abbrev pub AtTaker : (TakerView T K → Type 0) → Sight T K → Type 0
  AtTaker P (taker t) = P t
  AtTaker P (both g t) = Unit {0}
  AtTaker P (giver g) = Unit {0}
  AtTaker P (settled g t) = Unit {0}
  AtTaker P spent = Unit {0}

  abbrev pub AtSettled : (GiverView T K → TakerView T K → Type 0) → Sight T K → Type 0
  AtSettled P (settled g t) = P g t
  AtSettled P (both g t) = Unit {0}
  AtSettled P (giver g) = Unit {0}
  AtSettled P (taker t) = Unit {0}
  AtSettled P spent = Unit {0}

  -- what the giver knows after each of its steps, of the number found
  abbrev pub with_slot : ℕ → ℕ → GiverView T K → GiverView T K
  with_slot z n g = record g { flow = filling z g.flow.about g.flow.given n }

  abbrev pub waiting : ℕ → GiverView T K → GiverView T K
  waiting n g = record g { flow = idle g.flow.about g.flow.given n }

  abbrev pub refusing : (T → ℕ) → Option T → ℕ → GiverView T K → GiverView T K
  refusing size x n g = record g { flow = idle g.flow.about g.flow.given n; refusals = g.refusals ++ record { item = x; accepted = length g.flow.given; head = n; bytes = sum_by size (left g.flow.given n) } ∷ []; owes = true; past = tell_refused x (length g.refusals + 1) g.past }

  abbrev pub given_more : List T → GiverView T K → GiverView T K
  given_more xs g = record g { flow = idle g.flow.about (g.flow.given ++ xs) g.flow.seen; past = tell_given xs g.past }

  abbrev pub owing_none : GiverView T K → GiverView T K
  owing_none g = record g { owes = false }

  abbrev pub shut : GiverView T K → GiverView T K
  shut g = record g { closed = true; past = (machine.close, machine.done) ∷ g.past }

  abbrev pub asking : ℕ → GiverView T K → GiverView T K
  asking n g = record g { asked = g.asked + 1; told = told_by g.told (g.asked + 1) n }

  -- and the taker
  abbrev pub holding : ℕ → T → TakerView T K → TakerView T K
  holding n x t = record t { flow = emptying t.flow.about t.flow.got n x; looking = false }

  abbrev pub finding_none : ℕ → TakerView T K → TakerView T K
  finding_none n t = record t { flow = resting t.flow.about t.flow.got n; ended = t.saw_closed; looking = false; past = (machine.take, no_message t.saw_closed) ∷ t.past }

  abbrev pub got_more : TakerView T K → TakerView T K
  got_more t = record t { flow = resting t.flow.about (t.flow.got ++ item_of t.flow.hand) t.flow.seen; looking = false; past = tell_got t.flow.hand t.past }

  abbrev pub numbering : ℕ → TakerView T K → TakerView T K
  numbering n t = record t { numbers = t.numbers ++ (n, length t.flow.got) ∷ []; looking = false; past = (machine.see, machine.overs n) ∷ t.past }

  abbrev pub closing : ℕ → TakerView T K → TakerView T K
  closing n t = record t { saw_closed = is_set n; looking = flip (is_set n) }

  abbrev pub failing : TakerView T K → TakerView T K
  failing t = record t { failed = true; looking = false; past = (machine.fail, machine.done) ∷ t.past }

  -- a giver with an empty hand loads the head: where there is room for z bytes it takes the next slot, which is empty
  abbrev pub head_loaded : Measure T K → (ℕ → GiverView T K → GiverView T K) → ℕ → Step (Option T) → Sat T K → ℕ → Sat T K → Type 0
  head_loaded w where_full z s m n m' = AtGiver (λ g. (g.flow.seen ≤ n) × (n ≤ length g.flow.given) × (length g.flow.given ≤ n + s.slots)
      × (is_full w.size (bounds w s.slots g.flow.about) g.flow.given n z ≡ false → IsGiver m' (with_slot z n g) ((length g.flow.given % s.slots, None) ∷ m.1))
      × (is_full w.size (bounds w s.slots g.flow.about) g.flow.given n z ≡ true → IsGiver m' (where_full n g) m.1)) m.0.sight

  -- it adds to the tail, and so gives what it has put into the slot
  abbrev pub tail_added : Step (Option T) → Sat T K → ℕ → Sat T K → Type 0
  tail_added s m n m' = AtGiver (λ g. IsGiver m' (given_more (item m.1) g) (rest m.1)) m.0.sight

  -- other steps of the giver, which leave its hand as it is
  abbrev pub giver_went : (ℕ → GiverView T K → GiverView T K) → Step (Option T) → Sat T K → ℕ → Sat T K → Type 0
  giver_went f s m n m' = AtGiver (λ g. IsGiver m' (f n g) m.1) m.0.sight

  -- a load of word 4, where 1 says that the taker failed. Once it gave 1 it always does
  abbrev pub asked_after : Step (Option T) → Sat T K → ℕ → Sat T K → Type 0
  asked_after s m n m' = (n < 2) × AtGiver (λ g. (v : ℕ) → g.told ≡ Some v → n ≡ 1) m.0.sight × giver_went asking s m n m'

  -- a taker with an empty hand loads the tail: where a message waits it takes its slot
  abbrev pub tail_loaded : (K → List T → T → Type 0) → Step (Option T) → Sat T K → ℕ → Sat T K → Type 0
  tail_loaded follows s m n m' = AtTaker (λ t. (length t.flow.got ≤ n) × (length t.flow.got < n → (x : T) × follows t.flow.about t.flow.got x × IsTaker m' (holding n x t) ((length t.flow.got % s.slots, Some x) ∷ m.1))
      × (n ≡ length t.flow.got → IsTaker m' (finding_none n t) m.1)) m.0.sight

  -- it adds to the head, and so gives back the slot, which is empty
  abbrev pub head_added : Step (Option T) → Sat T K → ℕ → Sat T K → Type 0
  head_added s m n m' = AtTaker (λ t. IsTaker m' (got_more t) (rest m.1)) m.0.sight

  -- other steps of the taker
  abbrev pub taker_went : (ℕ → TakerView T K → TakerView T K) → Step (Option T) → Sat T K → ℕ → Sat T K → Type 0
  taker_went f s m n m' = AtTaker (λ t. IsTaker m' (f n t) m.1) m.0.sight

  -- what the two seats tell when they are one
  abbrev pub Agree : Measure T K → ℕ → GiverView T K → TakerView T K → Type 0
  Agree w n g t = IsPrefix t.flow.got g.flow.given × (t.ended ≡ true → (g.closed ≡ true) × (t.flow.got ≡ g.flow.given))
      × ((i : ℕ) (p : ℕ × ℕ) → get_elem? t.numbers i ≡ some p → (p.0 ≤ length g.refusals) × ((v : ℕ) (r : Refusal T) → p.0 ≡ v + 1 → get_elem? g.refusals v ≡ some r → r.head ≤ p.1))
      × ((v : ℕ) → g.told ≡ Some v → (t.failed ≡ true) × (0 < v) × (v ≤ g.asked))
      × ((history : Past T) × Runs w.size (bounds w n g.flow.about) history (shown g t) × (giver_side history ≡ g.past) × (taker_side history ≡ t.past))

  -- a seat into which the other was joined learns the rule
  abbrev pub compared : Measure T K → Step (Option T) → Sat T K → ℕ → Sat T K → Type 0
  compared w s m n m' = (m' ≡ m) × AtSettled (Agree w s.slots) m.0.sight

  abbrev pub giver_part : Sight T K → Sight T K
  giver_part (both g t) = giver g
  giver_part (giver g) = spent
  giver_part (taker t) = spent
  giver_part (settled g t) = spent
  giver_part spent = spent

  abbrev pub taker_part : Sight T K → Sight T K
  taker_part (both g t) = taker t
  taker_part (giver g) = spent
  taker_part (taker t) = spent
  taker_part (settled g t) = spent
  taker_part spent = spent

  abbrev pub beside : GiverView T K → Sight T K → Sight T K
  beside g (both h t) = spent
  beside g (giver h) = spent
  beside g (taker t) = settled g t
  beside g (settled h t) = spent
  beside g spent = spent

  abbrev pub joined : Sight T K → Sight T K → Sight T K
  joined (giver g) w = beside g w
  joined (both g t) w = spent
  joined (taker t) w = spent
  joined (settled g t) w = spent
  joined spent w = spent
