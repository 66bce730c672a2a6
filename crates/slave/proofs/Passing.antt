-- The turns of a worker, as stretches of what was given.
use Rattle.std.proofs.Common.{◌≡◌, ℕ, suc, ◌+◌, ◌≤◌, ◌<◌, ◌⊎◌, inl, inr, Bool, true, false, nat_lt, List, [], ◌∷◌, ◌++◌, length, map, slice_get, Some, refl, ap, sym, ◌∙◌, subst, arith, append_assoc, length-append}
use Rattle.std.proofs.lemmas.List.{length-map}
use Rattle.std.proofs.lemmas.Bool.{ltb-true}
use Rattle.fifo_core.specs.declared.types.FifoOptions.{FifoOptions}
use Rattle.fifo_core.specs.History.{History}
use Rattle.lane.specs.declared.msg.Msg.{Msg}
use Rattle.rmx_media.specs.declared.packet.Packet.{Packet}
use Rattle.slave.specs.Given.{Given, Sent, Swept, Gives}
use Rattle.slave.specs.AccountsAll.{SweptAt}
use Rattle.slave.specs.LaneAccounts.{PassedOn, SweptStretch}
use Rattle.slave.specs.Stretches.{Block, sent, swept, given_in, larger, given_of, messages_of, numbers_of, size_limit, Sized, Stretches}
use Rattle.slave.specs.WorkerDeals.{WorkersPassOn}
use Rattle.slave.proofs.Stretches.{swept_cases}
use Rattle.slave.specs.Origin.{Origin}

-- a stretch in what was given from the n-th message on
record From (size n : ℕ) (numbers : List (ℕ × ℕ)) (v : ℕ) (T : List Given) : Type 0 where
  front : List Given
  swept_part : List Given
  back : List Given
  split : T ≡ front ++ (swept_part ++ back)
  few : length swept_part ≤ size
  before : (i u : ℕ) → SweptAt front i u → u < v
  all : (i u : ℕ) → SweptAt swept_part i u → u ≡ v
  only : (i : ℕ) (p : Packet) → Gives swept_part i p → ⊥
  behind : (i u : ℕ) → SweptAt back i u → v < u
  place : ℕ
  seen : slice_get numbers place ≡ Some (v, n + length front)

sent_none : (ms : List Msg) (i v : ℕ) → SweptAt (map sent ms) i v → ⊥
sent_none [] i v s = s
sent_none (m ∷ ms) i v s = sent_none ms i v s

swept_number : (k : ℕ) (ms : List Msg) (i v : ℕ) → SweptAt (map (swept k) ms) i v → v ≡ k
swept_number k [] i v s = absurd s
swept_number k (m ∷ ms) i v (inl e) = sym e.1
swept_number k (m ∷ ms) i v (inr s) = swept_number k ms i v s

swept_only : (k : ℕ) (ms : List Msg) (i : ℕ) (p : Packet) → Gives (map (swept k) ms) i p → ⊥
swept_only k [] i p g = g
swept_only k (m ∷ ms) i p g = swept_only k ms i p g

-- what was given by these turns, and what came after
abbrev whole : ℕ → List Block → List Msg → List Given
whole last bs A = given_of last bs ++ map sent A

module _ (A : List Msg) where
  -- what is flushed has a number above those seen before
  swept_above : (last : ℕ) (bs : List Block) (i v : ℕ) → SweptAt (whole last bs A) i v → last < v
  swept_above last [] i v s = absurd (sent_none A i v s)
  swept_above last (b ∷ bs) i v s = by (nat_lt last b.number) refl (swept_above b.number bs i v) (swept_above last bs i v) s
    where
      by : (t : Bool) → nat_lt last b.number ≡ t → (SweptAt (whole b.number bs A) i v → b.number < v) → (SweptAt (whole last bs A) i v → last < v)
          → SweptAt ((given_in t b ++ given_of (larger t b.number last) bs) ++ map sent A) i v → last < v
      by true e higher same s =
          let above = ltb-true last b.number e in
          elim (swept_cases (map (swept b.number) b.messages) (whole b.number bs A) i v (subst (λ (T : List Given). SweptAt T i v) (append_assoc (map (swept b.number) b.messages) (given_of b.number bs) (map sent A)) s)) [
            | inl x ↦ (let k = swept_number b.number b.messages i v x in omega (arith, k, above))
            | inr x ↦ (let k = higher x in omega (arith, k, above))
          ]
      by false e higher same s =
          elim (swept_cases (map sent b.messages) (whole last bs A) i v (subst (λ (T : List Given). SweptAt T i v) (append_assoc (map sent b.messages) (given_of last bs) (map sent A)) s)) [
            | inl x ↦ absurd (sent_none b.messages i v x)
            | inr x ↦ same x
          ]

  -- a stretch behind a further turn
  behind_turn : (size n number : ℕ) (F : List Given) (count : ℕ) (numbers : List (ℕ × ℕ)) (v : ℕ) (T : List Given) → length F ≡ count → ((i u : ℕ) → SweptAt F i u → u < v)
      → From size (n + count) numbers v T → From size n ((number, n) ∷ numbers) v (F ++ T)
  behind_turn size n number F count numbers v T size_is low s =
      let more = length-append F s.front in
      let place_is : (n + count) + length s.front ≡ n + length (F ++ s.front) = omega (arith, size_is, more) in
      record {
        front = F ++ s.front;
        swept_part = s.swept_part;
        back = s.back;
        split = ap (λ (X : List Given). F ++ X) s.split ∙ sym (append_assoc F s.front (s.swept_part ++ s.back));
        few = s.few;
        before = λ i u x. elim (swept_cases F s.front i u x) [ inl y ↦ low i u y | inr y ↦ s.before i u y ];
        all = s.all;
        only = s.only;
        behind = s.behind;
        place = suc s.place;
        seen = s.seen ∙ ap (λ (k : ℕ). Some (v, k)) place_is;
      }

  stretch_from : (size last n : ℕ) (bs : List Block) (i v : ℕ) → Sized size last bs → SweptAt (whole last bs A) i v → From size n (numbers_of n bs) v (whole last bs A)
  stretch_from size last n [] i v k s = absurd (sent_none A i v s)
  stretch_from size last n (b ∷ bs) i v k s =
      by (nat_lt last b.number) refl k (λ j. stretch_from size b.number (n + length b.messages) bs i v j) (λ j. stretch_from size last (n + length b.messages) bs i v j) s
    where
      by : (t : Bool) → nat_lt last b.number ≡ t
          → (length b.messages ≤ size_limit t size) × Sized size (larger t b.number last) bs
          → (Sized size b.number bs → SweptAt (whole b.number bs A) i v → From size (n + length b.messages) (numbers_of (n + length b.messages) bs) v (whole b.number bs A))
          → (Sized size last bs → SweptAt (whole last bs A) i v → From size (n + length b.messages) (numbers_of (n + length b.messages) bs) v (whole last bs A))
          → SweptAt ((given_in t b ++ given_of (larger t b.number last) bs) ++ map sent A) i v
          → From size n ((b.number, n) ∷ numbers_of (n + length b.messages) bs) v ((given_in t b ++ given_of (larger t b.number last) bs) ++ map sent A)
      by true e k higher same s =
          let F = map (swept b.number) b.messages in
          let T = whole b.number bs A in
          let assoc = append_assoc F (given_of b.number bs) (map sent A) in
          let here : (v ≡ b.number) ⊎ SweptAt (whole b.number bs A) i v = elim (swept_cases F T i v (subst (λ (X : List Given). SweptAt X i v) assoc s)) [ inl x ↦ inl (swept_number b.number b.messages i v x) | inr x ↦ inr x ] in
          subst (λ (X : List Given). From size n ((b.number, n) ∷ numbers_of (n + length b.messages) bs) v X) (sym assoc) (choose F T k here higher)
        where
          choose : (F T : List Given) → (length b.messages ≤ size) × Sized size b.number bs → (v ≡ b.number) ⊎ SweptAt (whole b.number bs A) i v
              → (Sized size b.number bs → SweptAt (whole b.number bs A) i v → From size (n + length b.messages) (numbers_of (n + length b.messages) bs) v (whole b.number bs A))
              → From size n ((b.number, n) ∷ numbers_of (n + length b.messages) bs) v (map (swept b.number) b.messages ++ whole b.number bs A)
          choose F T k (inl is) higher =
              let z : n ≡ n + 0 = omega arith in
              record {
                front = [];
                swept_part = map (swept b.number) b.messages;
                back = whole b.number bs A;
                split = refl;
                few = (let m = length-map b.messages (swept b.number) in omega (arith, m, k.0));
                before = λ j u x. absurd x;
                all = λ j u x. swept_number b.number b.messages j u x ∙ sym is;
                only = λ j p x. swept_only b.number b.messages j p x;
                behind = λ j u x. (let y = swept_above b.number bs j u x in omega (arith, y, is));
                place = 0;
                seen = rw (is, ← z) refl;
              }
          choose F T k (inr x) higher =
              let above = swept_above b.number bs i v x in
              behind_turn size n b.number (map (swept b.number) b.messages) (length b.messages) (numbers_of (n + length b.messages) bs) v (whole b.number bs A) (length-map b.messages (swept b.number))
              (λ j u y. (let is = swept_number b.number b.messages j u y in omega (arith, is, above))) (higher k.1 x)
      by false e k higher same s =
          let F = map sent b.messages in
          let T = whole last bs A in
          let assoc = append_assoc F (given_of last bs) (map sent A) in
          let there : SweptAt T i v = elim (swept_cases F T i v (subst (λ (X : List Given). SweptAt X i v) assoc s)) [ inl x ↦ absurd (sent_none b.messages i v x) | inr x ↦ x ] in
          subst (λ (X : List Given). From size n ((b.number, n) ∷ numbers_of (n + length b.messages) bs) v X) (sym assoc)
          (behind_turn size n b.number F (length b.messages) (numbers_of (n + length b.messages) bs) v T (length-map b.messages sent) (λ j u y. absurd (sent_none b.messages j u y)) (same k.1 there))

passed_sent : (ms : List Msg) → PassedOn (map sent ms) ms
passed_sent [] = tt
passed_sent (m ∷ ms) = (refl, refl, passed_sent ms)

passed_swept : (k : ℕ) (ms : List Msg) → PassedOn (map (swept k) ms) ms
passed_swept k [] = tt
passed_swept k (m ∷ ms) = (refl, passed_swept k ms)

passed_append : (T U : List Given) (ms ns : List Msg) → PassedOn T ms → PassedOn U ns → PassedOn (T ++ U) (ms ++ ns)
passed_append [] U [] ns k j = j
passed_append [] U (m ∷ ms) ns k j = absurd k
passed_append (Sent i p ∷ T) U [] ns k j = absurd k
passed_append (Swept i v ∷ T) U [] ns k j = absurd k
passed_append (Sent i p ∷ T) U (m ∷ ms) ns k j = (k.0, k.1, passed_append T U ms ns k.2 j)
passed_append (Swept i v ∷ T) U (m ∷ ms) ns k j = (k.0, passed_append T U ms ns k.1 j)

passed_in : (t : Bool) (b : Block) → PassedOn (given_in t b) b.messages
passed_in true b = passed_swept b.number b.messages
passed_in false b = passed_sent b.messages

passed_of : (last : ℕ) (bs : List Block) → PassedOn (given_of last bs) (messages_of bs)
passed_of last [] = tt
passed_of last (b ∷ bs) =
    passed_append (given_in (nat_lt last b.number) b) (given_of (larger (nat_lt last b.number) b.number last) bs) b.messages (messages_of bs)
    (passed_in (nat_lt last b.number) b) (passed_of (larger (nat_lt last b.number) b.number last) bs)

-- a worker passes on what its lane gave
pub passed_on : (g : Origin) (o : FifoOptions) (T : List Given) (h : History) (got : List Msg) (numbers : List (ℕ × ℕ)) → Stretches g o T h got numbers → PassedOn T got
passed_on g o T h got numbers k =
    subst (λ (X : List Given). PassedOn X got) (sym k.given_is)
    (subst (PassedOn (given_of 0 k.blocks ++ map sent k.after)) (sym k.got_is) (passed_append (given_of 0 k.blocks) (map sent k.after) (messages_of k.blocks) k.after (passed_of 0 k.blocks) (passed_sent k.after)))

-- what it flushes by one number is one stretch
pub stretch_of : (g : Origin) (o : FifoOptions) (T : List Given) (h : History) (got : List Msg) (numbers : List (ℕ × ℕ)) (i v : ℕ) → Stretches g o T h got numbers → SweptAt T i v
    → (1 ≤ v) × SweptStretch o.queue_size numbers v T
stretch_of g o T h got numbers i v k s =
    let there : SweptAt (whole 0 k.blocks k.after) i v = subst (λ (X : List Given). SweptAt X i v) k.given_is s in
    let f = stretch_from k.after o.queue_size 0 0 k.blocks i v k.sized there in
    let high = swept_above k.after 0 k.blocks i v there in
    let z : 0 + length f.front ≡ length f.front = omega arith in (
      omega (arith, high),
      record {
        front = f.front;
        swept = f.swept_part;
        back = f.back;
        split = k.given_is ∙ f.split;
        few = f.few;
        before = f.before;
        all = f.all;
        only = f.only;
        behind = f.behind;
        place = f.place;
        seen = subst (λ (ns : List (ℕ × ℕ)). slice_get ns f.place ≡ Some (v, length f.front)) (sym k.numbers_are) (f.seen ∙ ap (λ (c : ℕ). Some (v, c)) z);
      },
    )

pub workers_pass_on : WorkersPassOn
workers_pass_on g o T h got numbers k = (passed_on g o T h got numbers k, λ i v s. stretch_of g o T h got numbers i v k s)
