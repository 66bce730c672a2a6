-- An output that was given up stays so, and isn't closed at its end.
use Rattle.std.proofs.Common.{◌≡◌, inl, inr, Bool, true, false, not, ◌&&◌, if◌then◌else◌, List, [], ◌∷◌, ◌++◌, Option, Some, None, is_some, refl, sym, ◌∙◌}
use Rattle.fifo_core.specs.declared.types.FifoOptions.{FifoOptions}
use Rattle.fifo_core.specs.declared.types.Answer.{Answer}
use Rattle.fifo_core.specs.declared.types.EndState.{EndState}
use Rattle.fifo_core.specs.declared.types.EndState.TheVariants as ends
use Rattle.fifo_core.specs.declared.types.Mode.{Mode}
use Rattle.fifo_core.specs.declared.types.Mode.TheVariants.{Live, Broken, Dead}
use Rattle.fifo_core.specs.History.{Begun, Tried, Fated, Want, History, mode_of, mode_is_dead, mode_is_live, wanted, is_live, end_of}
use Rattle.fifo_core.specs.Follows.{Turn}
use Rattle.fifo_core.specs.Causes.{Caused}
use Rattle.fifo_core.proofs.Caused.{each_caused}
use Rattle.slave.specs.Table.{turns_from}
use Rattle.slave.specs.End.{IsUnclosed, GivenUpStaysSo}
use Rattle.slave.proofs.Past.{in_turn}

shut_bools : (w : Bool) (m : Mode) → mode_is_dead m ≡ true → (not w && mode_is_live m) ≡ false
shut_bools true m d = refl
shut_bools false Live d = absurd (cc d)
shut_bools false (Broken f) d = refl
shut_bools false (Dead f) d = refl

-- it has no session that could be closed
pub dead_shut : (o : FifoOptions) (h : History) (b : Bool) → b ≡ true → b ≡ is_live o h → mode_is_dead (mode_of o h) ≡ true → ⊥
dead_shut o h b e is d = let t : true ≡ false = sym e ∙ is ∙ shut_bools (wanted h) (mode_of o h) d in cc t

uncalled : (w : Bool) → IsUnclosed (if w then ends.NoMemory else ends.Failed)
uncalled true = inr refl
uncalled false = inl refl

pub dead_unclosed : (o : FifoOptions) (h : History) (a : Option Answer) (s : EndState) → is_some a ≡ is_live o h → s ≡ end_of h a
    → mode_is_dead (mode_of o h) ≡ true → IsUnclosed s
dead_unclosed o h None s called is d = rw is (uncalled (wanted h))
dead_unclosed o h (Some b) s called is d = absurd (dead_shut o h true refl called d)

no_dead : (o : FifoOptions) (later part : History) → later ++ part ≡ [] → mode_is_dead (mode_of o part) ≡ true → ⊥
no_dead o [] part e d = let t : false ≡ true = rw e at d in cc t
no_dead o (x ∷ later) part e d = cc e

-- no packet is tried once the output was given up
still_dead : (o : FifoOptions) (ts : List Turn) (later part : History) → Caused o ts (later ++ part)
    → mode_is_dead (mode_of o part) ≡ true → mode_is_dead (mode_of o (later ++ part)) ≡ true
still_dead o ts [] part c d = d
still_dead o ts (Begun a ∷ later) part c d = absurd (no_dead o later part c d)
still_dead o ts (Tried s i facts a ∷ later) part c d =
    let before = still_dead o ts later part c.1 d in
    let t : true ≡ false = sym before ∙ c.0.2 in absurd (cc t)
still_dead o ts (Fated i f ∷ later) part c d = still_dead o ts later part c.1 d
still_dead o ts (Want ∷ later) part c d = still_dead o ts later part c d

pub stays_given_up : GivenUpStaysSo
stays_given_up out o L e k later part split d =
    let caused = each_caused o (turns_from out 0 L) k.history (in_turn out 0 L) k.follows in
    let now = still_dead o (turns_from out 0 L) later part (rw split at caused) d in
    let dead : mode_is_dead (mode_of o k.history) ≡ true = rw split now in
    (dead, dead_unclosed o k.history k.end_answer e.state k.end_called k.state dead)
