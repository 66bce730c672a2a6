-- How far a worker has come.
use Rattle.std.proofs.Common.{◌≡◌, ℕ, zero, suc, ◌+◌, ◌<◌, ◌≤◌, Bool, true, false, List, [], ◌∷◌, ◌++◌, length, map, refl, sym, ap, ◌∙◌, subst, arith, append-nil, append_assoc, length-append}
use Rattle.std.specs.List.{All}
use Rattle.std.proofs.lemmas.Bool.{lt-ltb, le-ltb}
use Rattle.std.proofs.lemmas.List.{map-append}
use Rattle.fifo_core.specs.declared.types.FifoOptions.{FifoOptions}
use Rattle.fifo_core.specs.History.{History, mode_of, mode_is_dead}
use Rattle.lane_core.specs.Machine as machine
use Rattle.lane_core.specs.Machine.{Event, Reply}
use Rattle.lane.specs.declared.msg.Msg.{Msg}
use Rattle.lane.specs.declared.msg.Purpose.{Purpose}
use Rattle.lane.specs.Past.{Past}
use Rattle.lane.specs.Told.{TakerNow, empties}
use Rattle.lane.specs.Ring.{one_if}
use Rattle.slave.specs.Origin.{Origin}
use Rattle.slave.specs.Given.{Given, end_from}
use Rattle.slave.specs.Job.{JobView}
use Rattle.rmx_media.specs.Fits.{Fits}
use Rattle.slave.specs.Table.{Keeps, KeepsAll, GrowsAll, Takes}
use Rattle.slave.specs.End.{EndView, EndedAllBy}
use Rattle.slave.specs.Stretches.{Block, sent, swept, larger, last_of, Stretches, AreOf, Flushed}
use Rattle.slave.specs.Worked.{WorkedFor, is_fail, fails, add_late, got_late}
use Rattle.slave.specs.Purpose.{IsFor}
use Rattle.slave.proofs.Direct.{keeps_all}
use Rattle.slave.proofs.Stretching.{are_two, are_swept, comes_next, none_yet, one_after, one_turn}

pub fails_other : (e : Event Msg) (r : Reply Msg) (h : Past Msg) → is_fail e ≡ false → fails ((e, r) ∷ h) ≡ fails h
fails_other e r h no_fail = rw no_fail (omega arith)

pub fails_empties : (n : ℕ) (p : Past Msg) → fails (empties n p) ≡ fails p
fails_empties zero p = refl
fails_empties (suc n) p = omega (arith, fails_empties n p)

pub fails_take : (n : ℕ) (r : Reply Msg) (p : Past Msg) → fails ((machine.take, r) ∷ empties n p) ≡ fails p
fails_take n r p = omega (arith, fails_empties n p)

-- before the first `fail` none is late
pub none_late : (p : Past Msg) → fails p ≡ 0 → got_late p ≡ []
none_late [] e = refl
none_late ((x, r) ∷ h) e = let before : fails h ≡ 0 = omega (arith, e) in
    rw before (none_added x r (got_late h)) ∙ none_late h before
  where
    none_added : (x : Event Msg) (r : Reply Msg) (xs : List Msg) → add_late x r false xs ≡ xs
    none_added (machine.offer m) r xs = refl
    none_added machine.take machine.accepted xs = refl
    none_added machine.take (machine.refused v) xs = refl
    none_added machine.take (machine.got m) xs = refl
    none_added machine.take machine.empty xs = refl
    none_added machine.take machine.ended xs = refl
    none_added machine.take (machine.overs v) xs = refl
    none_added machine.take machine.done xs = refl
    none_added machine.take machine.shut xs = refl
    none_added machine.see r xs = refl
    none_added machine.close r xs = refl
    none_added machine.fail r xs = refl

late_empties : (n : ℕ) (p : Past Msg) → got_late (empties n p) ≡ got_late p
late_empties zero p = refl
late_empties (suc n) p = late_empties n p

-- a message that is got behind the first `fail` is late
pub one_late : (n : ℕ) (m : Msg) (p : Past Msg) → fails p ≡ 1 → got_late ((machine.take, machine.got m) ∷ empties n p) ≡ got_late p ++ m ∷ []
one_late n m p e = let told : fails (empties n p) ≡ 1 = fails_empties n p ∙ e in rw told (ap (λ xs. xs ++ m ∷ []) (late_empties n p))

pub late_ended : (n : ℕ) (p : Past Msg) → got_late ((machine.take, machine.ended) ∷ empties n p) ≡ got_late p
late_ended n p = late_empties n p

-- nothing is flushed yet
pub flushed_none : {g : Origin} {o : FifoOptions} {T : List Given} {v : JobView} (k : KeepsAll g o T v) (number : ℕ) (got : List Msg)
    → Flushed g o T k.history number 0 got got v
flushed_none {T = T} k number got = record {
  messages = [];
  got_is = sym (append-nil got);
  few = omega arith;
  given = T;
  given_is = sym (append-nil T);
  grows = record { keeps = k; later = []; goes_on = refl; stays_dead = λ e. e };
}

module _ (g : Origin) (o : FifoOptions) (T : List Given) (before : History) (number size : ℕ) (got more : List Msg) (v : JobView)
    (f : Flushed g o T before number size got more v) where
  pub are_flushed : AreOf T got → AreOf f.given more
  are_flushed a = subst (λ ts. AreOf ts more) (sym f.given_is) (subst (λ ms. AreOf (T ++ map (swept number) f.messages) ms) (sym f.got_is)
      (are_two T (map (swept number) f.messages) got f.messages a (are_swept number f.messages)))

  -- one more
  pub flushed_one : (next : List Msg) (w : JobView) (m : Msg) → next ≡ more ++ m ∷ [] → GrowsAll g o (f.given ++ swept number m ∷ []) f.grows.keeps.history w
      → Flushed g o T before number (size + 1) got next w
  flushed_one next w m e grows = record {
    messages = f.messages ++ m ∷ [];
    got_is = e ∙ (ap (λ ms. ms ++ m ∷ []) f.got_is ∙ append_assoc got f.messages (m ∷ []));
    few = omega (arith, f.few, length-append f.messages (m ∷ []));
    given = f.given ++ swept number m ∷ [];
    given_is = ap (λ ts. ts ++ swept number m ∷ []) f.given_is
        ∙ (append_assoc T (map (swept number) f.messages) (swept number m ∷ []) ∙ ap (λ ts. T ++ ts) (sym (map-append (swept number) f.messages (m ∷ []))));
    grows = record {
      keeps = grows.keeps;
      later = grows.later ++ f.grows.later;
      goes_on = grows.goes_on ∙ (ap (λ h. grows.later ++ h) f.grows.goes_on ∙ sym (append_assoc grows.later f.grows.later before));
      stays_dead = λ d. grows.stays_dead (f.grows.stays_dead d);
    };
  }

  -- no more comes
  pub flushed_all : (most : ℕ) (next : List Msg) → size ≤ most → next ≡ more → Flushed g o T before number most got next v
  flushed_all most next le e = record { messages = f.messages; got_is = e ∙ f.got_is; few = omega (arith, f.few, le); given = f.given; given_is = f.given_is; grows = f.grows }

-- The messages that were got led the job there, and the number seen last, whether the giver was told, and what was got since then agree with that.
pub record Going (g : Origin) (o : FifoOptions) (got : List Msg) (numbers : List (ℕ × ℕ)) (queue_size last : ℕ) (failed : Bool) (late : List Msg) (v : JobView) : Type 0 where
  pub given : List Given
  pub keeps : KeepsAll g o given v
  pub stretches : Stretches g o given keeps.history got numbers
  pub last_is : last ≡ last_of 0 stretches.blocks
  pub size : queue_size ≡ o.queue_size
  pub only_dead : failed ≡ true → mode_is_dead (mode_of o keeps.history) ≡ true
  pub late_is : late ≡ stretches.after

-- the next message of a lane for the output may come
pub may_come : (g : Origin) (T : List Given) (got : List Msg) (about : Purpose) (t : TakerNow) (m : Msg) → AreOf T got → t.got ≡ got → t.about ≡ about → IsFor g about
    → All (λ (y : Msg). y.index < m.index) t.got → Fits t.about.format t.about.streams.value m.packet → (end_from 0 T ≤ m.index) × Takes g m.packet
may_come g T got about t m are got_is about_is for_it above fits = (
  comes_next T got m.index are (subst (λ xs. All (λ (y : Msg). y.index < m.index) xs) got_is above),
  for_it m.packet (subst (λ k. Fits k.format k.streams.value m.packet) about_is fits),
)

pub begins : {g : Origin} {o : FifoOptions} {v : JobView} (queue_size : ℕ) → Keeps g o [] v
    → ((T : List Given) → KeepsAll g o T v → queue_size ≡ o.queue_size) → Going g o [] [] queue_size 0 false [] v
begins {g} {o} queue_size k size = record {
  given = [];
  keeps = keeps_all k;
  stretches = (none_yet g o k.history).0;
  last_is = (none_yet g o k.history).1;
  size = size [] (keeps_all k);
  only_dead = λ e. absurd (cc e);
  late_is = (none_yet g o k.history).2;
}

module _ (g : Origin) (o : FifoOptions) (got gets : List Msg) (numbers seen : List (ℕ × ℕ)) (queue_size last : ℕ) (failed told : Bool) (late lates : List Msg) (v w : JobView)
    (k : Going g o got numbers queue_size last failed late v) where
  -- the same by other names
  pub moved : gets ≡ got → seen ≡ numbers → (told ≡ true → mode_is_dead (mode_of o k.keeps.history) ≡ true) → lates ≡ late → Going g o gets seen queue_size last told lates v
  moved e f only late_is = record {
    given = k.given;
    keeps = k.keeps;
    stretches = s;
    last_is = k.last_is;
    size = k.size;
    only_dead = only;
    late_is = late_is ∙ k.late_is;
  }
    where
      s : Stretches g o k.given k.keeps.history gets seen
      s = record {
        blocks = k.stretches.blocks;
        after = k.stretches.after;
        got_is = e ∙ k.stretches.got_is;
        given_is = k.stretches.given_is;
        numbers_are = f ∙ k.stretches.numbers_are;
        sized = k.stretches.sized;
        before = k.stretches.before;
        gave_up = k.stretches.gave_up;
      }

  -- one message more for an output that was given up
  pub later : (m : Msg) → gets ≡ got ++ m ∷ [] → seen ≡ numbers → mode_is_dead (mode_of o k.keeps.history) ≡ true
      → GrowsAll g o (k.given ++ sent m ∷ []) k.keeps.history w → lates ≡ late ++ m ∷ [] → Going g o gets seen queue_size last told lates w
  later m e f dead grows late_is = let r = one_after g o k.given (k.given ++ sent m ∷ []) k.keeps.history grows.keeps.history grows.later got gets numbers k.stretches k.keeps.follows grows.goes_on
      seen m dead (grows.stays_dead dead) refl e f in record {
        given = k.given ++ sent m ∷ [];
        keeps = grows.keeps;
        stretches = r.0;
        last_is = k.last_is ∙ r.1;
        size = k.size;
        only_dead = λ _. grows.stays_dead dead;
        late_is = late_is ∙ (ap (λ xs. xs ++ m ∷ []) k.late_is ∙ sym r.2);
      }

  module _ (number : ℕ) (seen_is : seen ≡ numbers ++ (number, length got) ∷ []) (live : mode_is_dead (mode_of o k.keeps.history) ≡ false) (untold : told ≡ false) (none : lates ≡ []) where
    not_told : told ≡ true → ⊥
    not_told e = let t : false ≡ true = sym untold ∙ e in cc t

    -- a message was written
    pub wrote : (m : Msg) → number ≤ last → gets ≡ got ++ m ∷ [] → GrowsAll g o (k.given ++ sent m ∷ []) k.keeps.history w → Going g o gets seen queue_size last told lates w
    wrote m le e grows = let b : Block = record { number = number; messages = m ∷ [] } in
        let t = le-ltb last number le in
        let r = one_turn g o k.given (k.given ++ sent m ∷ []) k.keeps.history grows.keeps.history grows.later got gets numbers k.stretches k.keeps.follows grows.goes_on
        last seen b k.last_is live (rw t refl) e seen_is (rw t (omega arith)) in record {
          given = k.given ++ sent m ∷ [];
          keeps = grows.keeps;
          stretches = r.0;
          last_is = (let P : Bool → Type 0 = λ c. larger c number last ≡ last_of 0 r.0.blocks in subst P t r.1);
          size = k.size;
          only_dead = λ e. absurd (not_told e);
          late_is = none ∙ sym r.2;
        }

    -- no message came
    pub idled : number ≤ last → gets ≡ got → Going g o gets seen queue_size last told lates v
    idled le e = let b : Block = record { number = number; messages = [] } in
        let t = le-ltb last number le in
        let r = one_turn g o k.given k.given k.keeps.history k.keeps.history [] got gets numbers k.stretches k.keeps.follows refl
        last seen b k.last_is live (rw t (sym (append-nil k.given))) (e ∙ sym (append-nil got)) seen_is (rw t (omega arith)) in record {
          given = k.given;
          keeps = k.keeps;
          stretches = r.0;
          last_is = (let P : Bool → Type 0 = λ c. larger c number last ≡ last_of 0 r.0.blocks in subst P t r.1);
          size = k.size;
          only_dead = λ e. absurd (not_told e);
          late_is = none ∙ sym r.2;
        }

    -- what waited was flushed
    pub left_out : last < number → Flushed g o k.given k.keeps.history number queue_size got gets w → Going g o gets seen queue_size number told lates w
    left_out lt f = let b : Block = record { number = number; messages = f.messages } in
        let t = lt-ltb last number lt in
        let size : length f.messages ≤ o.queue_size = subst (λ n. length f.messages ≤ n) k.size f.few in
        let r = one_turn g o k.given f.given k.keeps.history f.grows.keeps.history f.grows.later got gets numbers k.stretches k.keeps.follows f.grows.goes_on
        last seen b k.last_is live (rw t f.given_is) f.got_is seen_is (rw t size) in record {
          given = f.given;
          keeps = f.grows.keeps;
          stretches = r.0;
          last_is = (let P : Bool → Type 0 = λ c. larger c number last ≡ last_of 0 r.0.blocks in subst P t r.1);
          size = k.size;
          only_dead = λ e. absurd (not_told e);
          late_is = none ∙ sym r.2;
        }

  -- the output ended
  pub finished : (e : EndView) (t : TakerNow) → EndedAllBy g o k.given k.keeps.history e → t.got ≡ got → t.numbers ≡ numbers
      → told ≡ mode_is_dead (mode_of o k.keeps.history) → t.failed ≡ told → fails t.past ≡ one_if told → got_late t.past ≡ late → WorkedFor g o e t
  finished e t ends got_is numbers_are told_is failed once late_is = let x = ends.0 in
      let is : mode_is_dead (mode_of o k.keeps.history) ≡ mode_is_dead (mode_of o x.history) = ap (λ h. mode_is_dead (mode_of o h)) (sym ends.1) in
      let P : History → Type 0 = λ h. (s : Stretches g o k.given h t.got t.numbers) × (got_late t.past ≡ s.after) in
      let s = subst P (sym ends.1) (rw (got_is, numbers_are) (k.stretches, late_is ∙ k.late_is)) in record {
        given = k.given;
        ends = x;
        stretches = s.0;
        failed = failed ∙ (told_is ∙ is);
        once = once ∙ ap one_if (told_is ∙ is);
        at_once = s.1;
      }
