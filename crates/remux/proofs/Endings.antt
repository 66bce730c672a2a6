-- How outputs end, seen from the run.
use Rattle.std.proofs.Common.{◌≡◌, ℕ, ◌+◌, ◌<◌, ◌≤◌, Bool, false, List, [], ◌∷◌, length, map, ap, ◌∙◌, sym, refl, subst, arith, Option, Some}
use Rattle.std.specs.Prelude.{zero, suc, drop, get_or, ◌^◌, ◌||◌, ◌&&◌, if◌then◌else◌}
use Rattle.std.specs.List.{list_all}
use Rattle.std.proofs.Math.Bool.{and-false}
use Rattle.std.proofs.lemmas.List.{length-map}
use Rattle.rmx_edge.specs.Shelf.{ShelfState}
use Rattle.rmx_media.specs.declared.packet.Packet.{Packet}
use Rattle.fifo_core.specs.History.{History}
use Rattle.fifo_core.specs.declared.types.EndState.{EndState}
use Rattle.options.specs.Slave.{Slave, view}
use Rattle.options.specs.declared.slave.SlavePlan.{SlavePlan}
use Rattle.slave.specs.Accounts.{EndsMeetAccounts}
use Rattle.slave.specs.End.{EndView, end_view}
use Rattle.slave.specs.Headline.{NoFaultNoLoss}
use Rattle.slave.specs.declared.job.SlaveEnd.{SlaveEnd}
use Rattle.tee.specs.Ends.{AllEnded, EndsAll}
use Rattle.tee.specs.Fails.{is_failed, is_want, any_want, failed_slave, failed_in, first_failed_from}
use Rattle.tee.specs.Seat.{Seat, aborts, chosen}
use Rattle.remux.specs.Asked.{clamped}
use Rattle.remux.specs.Kept.{AreKept}
use Rattle.remux.specs.Outcome.{states_of}
use Rattle.remux.specs.States.{states, aborts_of, some_want, each_failed, first_failed}

-- the states are those of the ends as they are seen
pub states_seen : {S : Type 0} (state : S → ShelfState) (ends : List (SlaveEnd S)) → states_of (map (end_view state) ends) ≡ states ends
states_seen state [] = refl
states_seen state (e ∷ es) = ap (λ (l : List EndState). e.state ∷ l) (states_seen state es)

-- which outputs abort is said by their plans
pub aborts_seen : (slaves : List SlavePlan) → map (λ (s : Slave). s.abort) (map view slaves) ≡ aborts_of slaves
aborts_seen [] = refl
aborts_seen (s ∷ ss) = ap (λ (l : List Bool). s.abort ∷ l) (aborts_seen ss)

pub as_many : (seats : List Seat) (given : List Packet) (hs : List History) (es : List EndView) → AllEnded seats given hs es → length es ≡ length seats
as_many [] given [] [] a = refl
as_many [] given [] (e ∷ es) a = absurd a
as_many [] given (h ∷ hs) es a = absurd a
as_many (s ∷ ss) given [] es a = absurd a
as_many (s ∷ ss) given (h ∷ hs) [] a = absurd a
as_many (s ∷ ss) given (h ∷ hs) (e ∷ es) a = ap (λ (n : ℕ). suc n) (as_many ss given hs es a.1)

-- where there is an end for each output, there are as many as plans
pub as_many_plans : {S : Type 0} (state : S → ShelfState) (seats : List Seat) (ends : List (SlaveEnd S)) (slaves : List SlavePlan) → length (map (end_view state) ends) ≡ length seats → aborts seats ≡ map (λ (s : Slave). s.abort) (map view slaves) → length slaves ≡ length ends
as_many_plans state seats ends slaves n e =
    omega (
      arith,
      n,
      length-map ends (end_view state),
      length-map seats (λ (s : Seat). s.slave.abort),
      length-map (map view slaves) (λ (s : Slave). s.abort),
      length-map slaves view,
      ap length e,
    )

pub as_many_ends : {S : Type 0} (state : S → ShelfState) (seats : List Seat) (given : List Packet) (dead : ℕ → Bool) (ends : List (SlaveEnd S)) (slaves : List SlavePlan) → EndsAll seats given dead (map (end_view state) ends) → aborts seats ≡ map (λ (s : Slave). s.abort) (map view slaves) → length slaves ≡ length ends
as_many_ends state seats given dead ends slaves a e = as_many_plans state seats ends slaves (as_many seats given a.histories (map (end_view state) ends) a.each) e

-- what is promised of each
pub all_kept : NoFaultNoLoss → EndsMeetAccounts → (seats : List Seat) (given : List Packet) (hs : List History) (es : List EndView) → AllEnded seats given hs es → AreKept seats given es
all_kept loss meets [] given [] [] a = tt
all_kept loss meets [] given [] (e ∷ es) a = absurd a
all_kept loss meets [] given (h ∷ hs) es a = absurd a
all_kept loss meets (s ∷ ss) given [] es a = absurd a
all_kept loss meets (s ∷ ss) given (h ∷ hs) [] a = absurd a
all_kept loss meets (s ∷ ss) given (h ∷ hs) (e ∷ es) a = (
  record {
    accounts = meets s.origin s.slave.fifo (chosen s given) e a.0.0;
    whole = λ f w l. loss s.origin s.slave.fifo (chosen s given) e a.0.0 f w l;
    sound = a.0.0.sound;
  },
  all_kept loss meets ss given hs es a.1,
)

pub clamped_small : (n : ℕ) → clamped n ≤ 2 ^ 40
clamped_small n = grind arith

-- a test of each state is one of each end
pub any_state : {S : Type 0} (ends : List (SlaveEnd S)) → some_want ends ≡ any_want (states ends)
any_state [] = refl
any_state (e ∷ es) = ap (λ (b : Bool). is_want e.state || b) (any_state es)

pub all_states : {S : Type 0} (ends : List (SlaveEnd S)) → each_failed ends ≡ list_all is_failed (states ends)
all_states [] = refl
all_states (e ∷ es) = ap (λ (b : Bool). is_failed e.state && b) (all_states es)

pub first_states : {S : Type 0} (n : ℕ) (slaves : List SlavePlan) (ends : List (SlaveEnd S)) → first_failed n slaves ends ≡ first_failed_from n (aborts_of slaves) (states ends)
first_states n [] ends = refl
first_states n (s ∷ ss) [] = refl
first_states n (s ∷ ss) (e ∷ es) = ap (λ (o : Option ℕ). if s.abort && is_failed e.state then Some n else o) (first_states (n + 1) ss es)

pub failed_by : {S : Type 0} (slaves : List SlavePlan) (ends : List (SlaveEnd S)) (result : Option ℕ) → result ≡ failed_in (first_failed 0 slaves ends) (each_failed ends) → result ≡ failed_slave (aborts_of slaves) (states ends)
failed_by slaves ends result e = e ∙ ap (λ (o : Option ℕ). failed_in o (each_failed ends)) (first_states 0 slaves ends) ∙ ap (λ (b : Bool). failed_in (first_failed_from 0 (aborts_of slaves) (states ends)) b) (all_states ends)

-- an output that doesn't abort, or didn't fail, isn't the first
pass_calm : {S : Type 0} (n k : ℕ) (slaves : List SlavePlan) (ends : List (SlaveEnd S)) (s : SlavePlan) → k < length slaves → length slaves ≡ length ends → s ≡ get_or slaves k s → s.abort ≡ false → first_failed n (drop k slaves) (drop k ends) ≡ first_failed (n + 1) (drop (suc k) slaves) (drop (suc k) ends)
pass_calm n k [] ends s lt same e calm_is = absurd (omega (arith, lt))
pass_calm n k (x ∷ xs) [] s lt same e calm_is = absurd (omega (arith, same))
pass_calm n zero (x ∷ xs) (y ∷ ys) s lt same e calm_is =
    let calm : x.abort ≡ false = ap (λ (p : SlavePlan). p.abort) (sym e) ∙ calm_is in
    ap (λ (b : Bool). if b && is_failed y.state then Some n else first_failed (n + 1) xs ys) calm
pass_calm n (suc k) (x ∷ xs) (y ∷ ys) s lt same e calm_is = pass_calm n k xs ys s (omega (arith, lt)) (omega (arith, same)) e calm_is

pass_whole : {S : Type 0} (n k : ℕ) (slaves : List SlavePlan) (ends : List (SlaveEnd S)) (d : SlaveEnd S) → k < length slaves → length slaves ≡ length ends → d ≡ get_or ends k d → is_failed d.state ≡ false → first_failed n (drop k slaves) (drop k ends) ≡ first_failed (n + 1) (drop (suc k) slaves) (drop (suc k) ends)
pass_whole n k [] ends d lt same e calm_is = absurd (omega (arith, lt))
pass_whole n k (x ∷ xs) [] d lt same e calm_is = absurd (omega (arith, same))
pass_whole n zero (x ∷ xs) (y ∷ ys) d lt same e calm_is =
    let whole : is_failed y.state ≡ false = ap (λ (q : SlaveEnd _). is_failed q.state) (sym e) ∙ calm_is in
    ap (λ (b : Bool). if b then Some n else first_failed (n + 1) xs ys) (ap (λ (b : Bool). x.abort && b) whole ∙ and-false x.abort)
pass_whole n (suc k) (x ∷ xs) (y ∷ ys) d lt same e calm_is = pass_whole n k xs ys d (omega (arith, lt)) (omega (arith, same)) e calm_is

-- so the search goes on behind it
pub goes_on : {S : Type 0} (k : ℕ) (slaves : List SlavePlan) (ends : List (SlaveEnd S)) → first_failed k (drop k slaves) (drop k ends) ≡ first_failed 0 slaves ends → first_failed k (drop k slaves) (drop k ends) ≡ first_failed (k + 1) (drop (suc k) slaves) (drop (suc k) ends) → first_failed (k + 1) (drop (k + 1) slaves) (drop (k + 1) ends) ≡ first_failed 0 slaves ends
goes_on k slaves ends i e =
    let n : suc k ≡ k + 1 = omega arith in
    subst (λ (m : ℕ). first_failed (k + 1) (drop m slaves) (drop m ends) ≡ first_failed 0 slaves ends) n (sym e ∙ i)

pub past_calm : {S : Type 0} (k : ℕ) (slaves : List SlavePlan) (ends : List (SlaveEnd S)) (s : SlavePlan) → first_failed k (drop k slaves) (drop k ends) ≡ first_failed 0 slaves ends → k < length ends → length slaves ≡ length ends → s ≡ get_or slaves k s → s.abort ≡ false → first_failed (k + 1) (drop (k + 1) slaves) (drop (k + 1) ends) ≡ first_failed 0 slaves ends
past_calm k slaves ends s i lt same e calm_is = goes_on k slaves ends i (pass_calm k k slaves ends s (omega (arith, lt, same)) same e calm_is)

pub past_whole : {S : Type 0} (k : ℕ) (slaves : List SlavePlan) (ends : List (SlaveEnd S)) (d : SlaveEnd S) → first_failed k (drop k slaves) (drop k ends) ≡ first_failed 0 slaves ends → k < length ends → length slaves ≡ length ends → d ≡ get_or ends k d → is_failed d.state ≡ false → first_failed (k + 1) (drop (k + 1) slaves) (drop (k + 1) ends) ≡ first_failed 0 slaves ends
past_whole k slaves ends d i lt same e calm_is = goes_on k slaves ends i (pass_whole k k slaves ends d (omega (arith, lt, same)) same e calm_is)
