-- All parts of a text, without their count.
use Rattle.std.proofs.Common.{◌≡◌, ◌<◌, ℕ, zero, suc, List, length, Bool, true, false, Result, Ok, refl, sym, ◌∙◌, ap, subst, arith}
use Rattle.options.specs.declared.fault.WordKind.{WordKind}
use Rattle.options.specs.declared.fault.WordKind.TheVariants.{UnclosedBlock, UnknownOption}
use Rattle.options.specs.declared.fault.ReadError.{ReadError}
use Rattle.options.specs.Read.{◌>>=◌, Fails}
use Rattle.options.specs.Repeat.{Turn, More, Last, turn, behind, parts, all_parts}
use Rattle.options.specs.Block.{value_at, bare_value_at}
use Rattle.options.specs.Fifo as fifo
use Rattle.options.specs.Fifos.{fifo_part}
use Rattle.options.specs.Draft.{with_named}
use Rattle.options.specs.Options.{option_part}
use Rattle.options.proofs.Binds.{bind_same, bind_is, bind_fails}
use Rattle.options.proofs.Shorter.{Shortens, value_leaves, bare_value_leaves, option_shortens}

-- a part that others follow has at least one character
pub record Shrinks {S : Type 0} (part : S → List ℕ → Result (Turn S) WordKind) : Type 0 where
  pub shorter : (s : S) (text : List ℕ) → Shortens (length text) (part s text)

less : {S : Type 0} (n : ℕ) (r : Result (Turn S) WordKind) (s : S) (rest : List ℕ) → Shortens n r → r ≡ Ok (More s rest) → length rest < n
less n r s rest h e = subst (λ x. Shortens n x) e h

enough : {S : Type 0} (part : S → List ℕ → Result (Turn S) WordKind) (many : WordKind) → Shrinks part → (n m : ℕ) (s : S) (text : List ℕ) → length text < n → length text < m → parts part many n s text ≡ parts part many m s text
unfolding parts
enough part many h zero m s text p q = absurd (omega arith)
enough part many h (suc n) zero s text p q = absurd (omega arith)
enough part many h (suc n) (suc m) s text p q =
    bind_same (part s text) _ _ (λ turn e. elim turn as (λ u. part s text ≡ Ok u → behind (parts part many n) u ≡ behind (parts part many m) u) [
      | More t rest ↦ λ f. let lt : length rest < length text = less (length text) (part s text) t rest (h.shorter s text) f in enough part many h n m t rest (omega arith) (omega arith)
      | Last t rest ↦ λ f. refl
    ] e)

all_parts_is : {S : Type 0} (part : S → List ℕ → Result (Turn S) WordKind) (many : WordKind) → Shrinks part → (s : S) (text : List ℕ) → all_parts part many s text ≡ (part s text >>= behind (all_parts part many))
unfolding parts
all_parts_is part many h s text =
    bind_same (part s text) _ _ (λ turn e. elim turn as (λ u. part s text ≡ Ok u → behind (parts part many (length text)) u ≡ behind (all_parts part many) u) [
      | More t rest ↦ λ f. let lt : length rest < length text = less (length text) (part s text) t rest (h.shorter s text) f in enough part many h (length text) (suc (length rest)) t rest lt (omega arith)
      | Last t rest ↦ λ f. refl
    ] e)

-- a part that others follow
pub more_parts : {S : Type 0} (part : S → List ℕ → Result (Turn S) WordKind) (many : WordKind) → Shrinks part → (s t : S) (text rest : List ℕ) → part s text ≡ Ok (More t rest) → all_parts part many t rest ≡ all_parts part many s text
more_parts part many h s t text rest e =
    sym (all_parts_is part many h s text ∙ bind_is (part s text) (More t rest) (behind (all_parts part many)) e)

-- the last part
pub last_part : {S : Type 0} (part : S → List ℕ → Result (Turn S) WordKind) (many : WordKind) → Shrinks part → (s t : S) (text rest : List ℕ) → part s text ≡ Ok (Last t rest) → all_parts part many s text ≡ Ok (t, rest)
last_part part many h s t text rest e =
    all_parts_is part many h s text ∙ bind_is (part s text) (Last t rest) (behind (all_parts part many)) e

-- a part at fault
pub bad_part : {S : Type 0} (part : S → List ℕ → Result (Turn S) WordKind) (many : WordKind) → Shrinks part → (s : S) (text : List ℕ) (e : ReadError) → Fails e (part s text) → Fails e (all_parts part many s text)
bad_part {S} part many h s text e f =
    subst (λ (r : Result (S × List ℕ) WordKind). Fails e r) (sym (all_parts_is part many h s text))
    (bind_fails e (part s text) (behind (all_parts part many)) f)

pub part_shorter : {S : Type 0} (part : S → List ℕ → Result (Turn S) WordKind) → Shrinks part → (s t : S) (text rest : List ℕ) → part s text ≡ Ok (More t rest) → length rest < length text
part_shorter part h s t text rest e = less (length text) (part s text) t rest (h.shorter s text) e

pub fifo_shrinks : Shrinks fifo_part
unfolding fifo_part
fifo_shrinks = record { shorter = λ d text. option_shortens UnknownOption text bare_value_at (λ key value. fifo.with_named key value d) bare_value_leaves }

pub option_shrinks : Shrinks option_part
unfolding option_part
option_shrinks = record { shorter = λ d text. option_shortens UnclosedBlock text value_at (λ key value. with_named key value d) value_leaves }

-- the same, where a test says whether the part was the last
pub more_by : {S : Type 0} (part : S → List ℕ → Result (Turn S) WordKind) (many : WordKind) → Shrinks part → (s t : S) (text rest : List ℕ) (last : Bool) → part s text ≡ Ok (turn last t rest) → last ≡ false → all_parts part many t rest ≡ all_parts part many s text
more_by part many h s t text rest last e f = more_parts part many h s t text rest (e ∙ ap (λ (b : Bool). Ok (turn b t rest)) f)

pub last_by : {S : Type 0} (part : S → List ℕ → Result (Turn S) WordKind) (many : WordKind) → Shrinks part → (s t : S) (text rest : List ℕ) (last : Bool) → part s text ≡ Ok (turn last t rest) → last ≡ true → all_parts part many s text ≡ Ok (t, rest)
last_by part many h s t text rest last e f = last_part part many h s t text rest (e ∙ ap (λ (b : Bool). Ok (turn b t rest)) f)

pub shorter_by : {S : Type 0} (part : S → List ℕ → Result (Turn S) WordKind) → Shrinks part → (s t : S) (text rest : List ℕ) (last : Bool) → part s text ≡ Ok (turn last t rest) → last ≡ false → length rest < length text
shorter_by part h s t text rest last e f = part_shorter part h s t text rest (e ∙ ap (λ (b : Bool). Ok (turn b t rest)) f)
