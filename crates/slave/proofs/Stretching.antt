-- How a worker's turns go on.
use Rattle.std.proofs.Common.{◌≡◌, ◌⊎◌, inl, inr, ℕ, ◌+◌, ◌<◌, ◌≤◌, Bool, true, false, nat_lt, List, [], ◌∷◌, ◌++◌, length, map, refl, sym, ap, ◌∙◌, subst, arith, length-append, append-nil, append_assoc}
use Rattle.std.specs.List.{All}
use Rattle.std.proofs.lemmas.List.{map-append}
use Rattle.std.proofs.lemmas.List.Elements.{All-head, All-tail}
use Rattle.fifo_core.specs.declared.types.FifoOptions.{FifoOptions}
use Rattle.fifo_core.specs.History.{History, mode_of, mode_is_dead}
use Rattle.fifo_core.specs.Follows.{Follows}
use Rattle.lane.specs.declared.msg.Msg.{Msg}
use Rattle.slave.specs.Origin.{Origin}
use Rattle.slave.specs.Given.{Given, index_of, turn_of, end_from}
use Rattle.slave.specs.Stretches.{Block, sent, swept, given_in, larger, given_of, last_of, messages_of, numbers_of, size_limit, Sized, Part, Lives, Stretches, AreOf}

-- one more turn
pub given-append : (last : ℕ) (bs : List Block) (b : Block) → given_of last (bs ++ b ∷ []) ≡ given_of last bs ++ given_in (nat_lt (last_of last bs) b.number) b
given-append last [] b = append-nil (given_in (nat_lt last b.number) b)
given-append last (x ∷ bs) b = let next = larger (nat_lt last x.number) x.number last in
    ap (λ ts. given_in (nat_lt last x.number) x ++ ts) (given-append next bs b)
    ∙ sym (append_assoc (given_in (nat_lt last x.number) x) (given_of next bs) (given_in (nat_lt (last_of next bs) b.number) b))

pub last-append : (last : ℕ) (bs : List Block) (b : Block) → last_of last (bs ++ b ∷ []) ≡ larger (nat_lt (last_of last bs) b.number) b.number (last_of last bs)
last-append last [] b = refl
last-append last (x ∷ bs) b = last-append (larger (nat_lt last x.number) x.number last) bs b

messages-append : (bs : List Block) (b : Block) → messages_of (bs ++ b ∷ []) ≡ messages_of bs ++ b.messages
messages-append [] b = append-nil b.messages
messages-append (x ∷ bs) b = ap (λ ms. x.messages ++ ms) (messages-append bs b) ∙ sym (append_assoc x.messages (messages_of bs) b.messages)

numbers-append : (n : ℕ) (bs : List Block) (b : Block) → numbers_of n (bs ++ b ∷ []) ≡ numbers_of n bs ++ (b.number, n + length (messages_of bs)) ∷ []
numbers-append n [] b = ap (λ (k : ℕ). (b.number, k) ∷ []) (omega arith)
numbers-append n (x ∷ bs) b = ap (λ xs. (x.number, n) ∷ xs) (numbers-append (n + length x.messages) bs b
    ∙ ap (λ (k : ℕ). numbers_of (n + length x.messages) bs ++ (b.number, k) ∷ []) (omega (arith, length-append x.messages (messages_of bs))))

sized-append : (size last : ℕ) (bs : List Block) (b : Block) → Sized size last bs → length b.messages ≤ size_limit (nat_lt (last_of last bs) b.number) size → Sized size last (bs ++ b ∷ [])
sized-append size last [] b s h = (h, tt)
sized-append size last (x ∷ bs) b s h = (s.0, sized-append size (larger (nat_lt last x.number) x.number last) bs b s.1 h)

-- a turn of more turns is the last, or one of those before it
snoc_split : {A : Type 0} (bs : List A) (y x : A) (front back : List A) → bs ++ y ∷ [] ≡ front ++ x ∷ back → (front ≡ bs) ⊎ ((rest : List A) × (bs ≡ front ++ x ∷ rest))
snoc_split [] y x [] back e = inl refl
snoc_split [] y x (z ∷ []) back e = absurd (cc e)
snoc_split [] y x (z ∷ w ∷ front) back e = absurd (cc e)
snoc_split (b ∷ bs) y x [] back e = inr (bs, let h : b ≡ x = cc in ap (λ z. z ∷ bs) h)
snoc_split (b ∷ bs) y x (z ∷ front) back e = let h : b ≡ z = cc in let t : bs ++ y ∷ [] ≡ front ++ x ∷ back = cc in elim (snoc_split bs y x front back t) [
  | inl s ↦ inl (rw (h, s) refl)
  | inr r ↦ inr (r.0, rw (h, r.1) refl)
]

-- the indices are those of the messages
are_sent : (ms : List Msg) → map index_of (map sent ms) ≡ map (λ (m : Msg). m.index) ms
are_sent [] = refl
are_sent (m ∷ ms) = ap (λ xs. m.index ∷ xs) (are_sent ms)

pub are_swept : (v : ℕ) (ms : List Msg) → map index_of (map (swept v) ms) ≡ map (λ (m : Msg). m.index) ms
are_swept v [] = refl
are_swept v (m ∷ ms) = ap (λ xs. m.index ∷ xs) (are_swept v ms)

are_in : (c : Bool) (b : Block) → map index_of (given_in c b) ≡ map (λ (m : Msg). m.index) b.messages
are_in true b = are_swept b.number b.messages
are_in false b = are_sent b.messages

-- two parts that were given for two parts
pub are_two : (T U : List Given) (got more : List Msg) → AreOf T got → AreOf U more → AreOf (T ++ U) (got ++ more)
are_two T U got more t u = map-append index_of T U
    ∙ (ap (λ xs. xs ++ map index_of U) t ∙ (ap (λ xs. map (λ (m : Msg). m.index) got ++ xs) u ∙ sym (map-append (λ (m : Msg). m.index) got more)))

are_given : (last : ℕ) (bs : List Block) → AreOf (given_of last bs) (messages_of bs)
are_given last [] = refl
are_given last (x ∷ bs) = let next = larger (nat_lt last x.number) x.number last in
    are_two (given_in (nat_lt last x.number) x) (given_of next bs) x.messages (messages_of bs) (are_in (nat_lt last x.number) x) (are_given next bs)

-- what was given was given for what was got
pub are_of : {g : Origin} {o : FifoOptions} {T : List Given} {h : History} {got : List Msg} {numbers : List (ℕ × ℕ)} → Stretches g o T h got numbers → AreOf T got
are_of {g} {o} {T} {h} {got} {numbers} s = ap (λ ts. map index_of ts) s.given_is
    ∙ (are_two (given_of 0 s.blocks) (map sent s.after) (messages_of s.blocks) s.after (are_given 0 s.blocks) (are_sent s.after)
    ∙ sym (ap (λ ms. map (λ (m : Msg). m.index) ms) s.got_is))

-- a message that is above those got before may come next
end_below : (n : ℕ) (T : List Given) (got : List Msg) (i : ℕ) → n ≤ i → AreOf T got → All (λ (y : Msg). y.index < i) got → end_from n T ≤ i
end_below n [] got i le e a = le
end_below n (t ∷ T) [] i le e a = absurd (cc e)
end_below n (t ∷ T) (y ∷ got) i le e a = let head : index_of t ≡ y.index = cc in
    let tail : AreOf T got = cc in
    let under : y.index < i = All-head (λ (y : Msg). y.index < i) y got a in
    end_below (index_of t + 1) T got i (omega (arith, head, under)) tail (All-tail (λ (y : Msg). y.index < i) y got a)

pub comes_next : (T : List Given) (got : List Msg) (i : ℕ) → AreOf T got → All (λ (y : Msg). y.index < i) got → end_from 0 T ≤ i
comes_next T got i e a = end_below 0 T got i (omega arith) e a

-- a part of a history is one of a longer history
abbrev later_part : {g : Origin} {o : FifoOptions} {ts : List Given} {h : History} (more next : History) → next ≡ more ++ h → Part g o ts h → Part g o ts next
later_part more next is p = record {
  history = p.history;
  later = more ++ p.later;
  goes_on = is ∙ (ap (λ x. more ++ x) p.goes_on ∙ sym (append_assoc more p.later p.history));
  follows = p.follows;
}

later_lives : {g : Origin} {o : FifoOptions} {ts : List Given} {h : History} (more next : History) → next ≡ more ++ h → Lives g o ts h → Lives g o ts next
later_lives more next is l = record { part = later_part more next is l.part; lives = l.lives }

pub none_yet : (g : Origin) (o : FifoOptions) (h : History) → (s : Stretches g o [] h [] []) × (0 ≡ last_of 0 s.blocks) × ([] ≡ s.after)
none_yet g o h = (
  record {
    blocks = [];
    after = [];
    got_is = refl;
    given_is = refl;
    numbers_are = refl;
    sized = tt;
    before = λ front b back e. absurd (none_split front b back e);
    gave_up = inl refl;
  },
  refl,
  refl,
)
  where
    none_split : (front : List Block) (b : Block) (back : List Block) → [] ≡ front ++ b ∷ back → ⊥
    none_split [] b back e = cc e
    none_split (x ∷ front) b back e = cc e

module _ (g : Origin) (o : FifoOptions) (T U : List Given) (h next more : History) (got gets : List Msg) (numbers : List (ℕ × ℕ)) (s : Stretches g o T h got numbers)
    (follows : Follows o (map (turn_of g) T) h) (goes_on : next ≡ more ++ h) where
  -- the whole history belongs to all that was given
  whole_part : (ts : List Given) → T ≡ ts → Part g o ts next
  whole_part ts e = record { history = h; later = more; goes_on = goes_on; follows = subst (λ us. Follows o (map (turn_of g) us) h) e follows }

  -- one message more for an output that was given up
  pub one_after : (seen : List (ℕ × ℕ)) (m : Msg) → mode_is_dead (mode_of o h) ≡ true → mode_is_dead (mode_of o next) ≡ true → U ≡ T ++ sent m ∷ [] → gets ≡ got ++ m ∷ []
      → seen ≡ numbers → (w : Stretches g o U next gets seen) × (last_of 0 s.blocks ≡ last_of 0 w.blocks) × (w.after ≡ s.after ++ m ∷ [])
  unfolding whole_part
  one_after seen m dead stays given got_is seen_is = (
    record {
      blocks = s.blocks;
      after = s.after ++ m ∷ [];
      got_is = got_is ∙ (ap (λ ms. ms ++ m ∷ []) s.got_is ∙ append_assoc (messages_of s.blocks) s.after (m ∷ []));
      given_is = given ∙ (ap (λ ts. ts ++ sent m ∷ []) s.given_is
          ∙ (append_assoc (given_of 0 s.blocks) (map sent s.after) (sent m ∷ []) ∙ ap (λ ts. given_of 0 s.blocks ++ ts) (sym (map-append sent s.after (m ∷ [])))));
      numbers_are = seen_is ∙ s.numbers_are;
      sized = s.sized;
      before = λ front b back e. later_lives more next goes_on (s.before front b back e);
      gave_up = inr (elim s.gave_up [
        | inl e ↦ let all : T ≡ given_of 0 s.blocks = s.given_is ∙ (ap (λ ms. given_of 0 s.blocks ++ map sent ms) e ∙ append-nil (given_of 0 s.blocks)) in
            record { part = whole_part (given_of 0 s.blocks) all; gone = dead; stays = stays }
        | inr d ↦ record { part = later_part more next goes_on d.part; gone = d.gone; stays = stays }
      ]);
    },
    refl,
    refl,
  )

  -- while the output isn't given up, nothing came after that
  none_after : mode_is_dead (mode_of o h) ≡ false → s.after ≡ []
  none_after live = elim s.gave_up [
    | inl e ↦ e
    | inr d ↦ let t : true ≡ false = sym d.stays ∙ live in absurd (cc t)
  ]

  -- a turn of an output that isn't given up
  pub one_turn : (last : ℕ) (seen : List (ℕ × ℕ)) (b : Block) → last ≡ last_of 0 s.blocks → mode_is_dead (mode_of o h) ≡ false
      → U ≡ T ++ given_in (nat_lt last b.number) b → gets ≡ got ++ b.messages → seen ≡ numbers ++ (b.number, length got) ∷ []
      → length b.messages ≤ size_limit (nat_lt last b.number) o.queue_size
      → (w : Stretches g o U next gets seen) × (larger (nat_lt last b.number) b.number last ≡ last_of 0 w.blocks) × (w.after ≡ [])
  unfolding whole_part
  one_turn last seen b last_is live given got_is seen_is few = let none = none_after live in
      let bs = s.blocks in
      let got_now : got ≡ messages_of bs = s.got_is ∙ (ap (λ ms. messages_of bs ++ ms) none ∙ append-nil (messages_of bs)) in
      let given_now : T ≡ given_of 0 bs = s.given_is ∙ (ap (λ ms. given_of 0 bs ++ map sent ms) none ∙ append-nil (given_of 0 bs)) in (
        record {
          blocks = bs ++ b ∷ [];
          after = [];
          got_is = got_is ∙ (ap (λ ms. ms ++ b.messages) got_now ∙ (sym (messages-append bs b) ∙ sym (append-nil (messages_of (bs ++ b ∷ [])))));
          given_is = given ∙ (ap (λ (n : ℕ). T ++ given_in (nat_lt n b.number) b) last_is
              ∙ (ap (λ ts. ts ++ given_in (nat_lt (last_of 0 bs) b.number) b) given_now ∙ (sym (given-append 0 bs b) ∙ sym (append-nil (given_of 0 (bs ++ b ∷ []))))));
          numbers_are = seen_is ∙ (ap (λ xs. xs ++ (b.number, length got) ∷ []) s.numbers_are
              ∙ (ap (λ (k : ℕ). numbers_of 0 bs ++ (b.number, k) ∷ []) (ap length got_now ∙ omega arith) ∙ sym (numbers-append 0 bs b)));
          sized = sized-append o.queue_size 0 bs b s.sized (let P : ℕ → Type 0 = λ n. length b.messages ≤ size_limit (nat_lt n b.number) o.queue_size in subst P last_is few);
          before = λ front c back e. elim (snoc_split bs b c front back e) [
            | inl f ↦ record { part = whole_part (given_of 0 front) (given_now ∙ ap (λ xs. given_of 0 xs) (sym f)); lives = live }
            | inr r ↦ later_lives more next goes_on (s.before front c r.0 r.1)
          ];
          gave_up = inl refl;
        },
        ap (λ (n : ℕ). larger (nat_lt n b.number) b.number n) last_is ∙ sym (last-append 0 bs b),
        refl,
      )
