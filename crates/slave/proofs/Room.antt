-- Room for a run is refused only where memory was wanted for good, or a fault came.
use Rattle.std.proofs.Common.{◌≡◌, ℕ, suc, ◌+◌, inl, inr, Bool, true, false, ◌⊎◌, List, [], ◌∷◌, ◌++◌, length, map, refl, ap, sym, ◌∙◌, subst, arith}
use Rattle.std.proofs.lemmas.List.{length-map}
use Rattle.fifo_core.specs.declared.types.FifoOptions.{FifoOptions}
use Rattle.fifo_core.specs.declared.types.PacketFacts.{PacketFacts}
use Rattle.fifo_core.specs.declared.types.Answer.TheVariants as answer
use Rattle.fifo_core.specs.declared.types.Fate.{Fate}
use Rattle.fifo_core.specs.declared.types.Fate.TheVariants as fate
use Rattle.fifo_core.specs.History.{Begun, Tried, Fated, Want, History, wanted, trying, action_of}
use Rattle.fifo_core.specs.Follows.{Turn, Comes, Follows}
use Rattle.fifo_core.specs.Laws.{AnswersAs, all_come, all_written}
use Rattle.fifo_core.proofs.Clean.{whole_run, writes}
use Rattle.rmx_edge.specs.Count.{Rose}
use Rattle.rmx_media.specs.declared.packet.Packet.{Packet}
use Rattle.slave.specs.declared.records.Run.{Run}
use Rattle.slave.specs.Origin.{Origin, facts_of}
use Rattle.slave.specs.Runs.{expand, Joins, InOrder}
use Rattle.slave.specs.Segments.{asks_list}
use Rattle.slave.specs.Job.{JobView, MakesRoom}
use Rattle.slave.specs.Table.{Keeps, KeepsAll, Stands, NotesTell, turns_from, expected_in}
use Rattle.slave.specs.Given.{Given, Sent, Swept, index_of, turn_of, end_from, sent_from, IsGapless}
use Rattle.slave.proofs.Direct.{plain_fates, gapless_last, sent_turns}
use Rattle.slave.proofs.Lists.{same_ends, last_run}
use Rattle.slave.proofs.Steps.{not_empty}

-- with no note and no want every answer was Done
pub all_done : (h : History) → NotesTell h [] → wanted h ≡ false → AnswersAs (λ _ _. answer.Done) answer.Done h
all_done [] t u = tt
all_done (Begun answer.Done ∷ h) t u = (refl, all_done h t u)
all_done (Begun answer.Fault ∷ h) t u = absurd (not_empty t.0 t.1 t.2)
all_done (Begun answer.NoMemory ∷ h) t u = absurd (cc u)
all_done (Tried s i facts answer.Done ∷ h) t u = (refl, all_done h t u)
all_done (Tried s i facts answer.Fault ∷ h) t u = absurd (not_empty t.0 t.1 t.2)
all_done (Tried s i facts answer.NoMemory ∷ h) t u = absurd (cc u)
all_done (Fated i f ∷ h) t u = all_done h t u
all_done (Want ∷ h) t u = absurd (cc u)

pub turns_come : (out : Origin) (n : ℕ) (L : List Packet) → turns_from out n L ≡ all_come n (map (facts_of out) L)
turns_come out n [] = refl
turns_come out n (p ∷ L) = ap (λ (ts : List Turn). Comes n (facts_of out p) ∷ ts) (turns_come out (n + 1) L)

-- the last of the packets that were all written
last_written : (n : ℕ) (x : PacketFacts) (xs : List PacketFacts) → (front : List (ℕ × Fate)) × (all_written n (x ∷ xs) ≡ front ++ (n + length xs, fate.Written 0) ∷ [])
last_written n x [] = (let e : n + 0 ≡ n = omega arith in ([], rw e refl))
last_written n x (y ∷ ys) =
    let k = last_written (n + 1) y ys in
    let e : (n + 1) + length ys ≡ n + suc (length ys) = omega arith in
    ((n, fate.Written 0) ∷ k.0, ap (λ (zs : List (ℕ × Fate)). (n, fate.Written 0) ∷ zs) (rw e at k.1))

-- where all packets so far were written in session 0, a further one is too, and its run goes on or is the first
same_pair : {i j : ℕ} {f g : Fate} (x y : ℕ × Fate) → x ≡ (i, f) → y ≡ (j, g) → x ≡ y → (i ≡ j) × (f ≡ g)
same_pair x y a b e = (ap (λ (z : ℕ × Fate). z.0) (sym a ∙ e ∙ b), ap (λ (z : ℕ × Fate). z.1) (sym a ∙ e ∙ b))

all_joins : (rs : List Run) (e : ℕ) (xs : List PacketFacts) → InOrder 0 e rs → expand rs ≡ all_written 0 xs → (rs ≡ []) ⊎ Joins rs (length xs) (fate.Written 0)
all_joins rs e xs o is = elim (last_run 0 e rs o) [ inl none ↦ inl none | inr k ↦ inr (by xs k.0 k.1 k.2 k.3 k.4 k.5 (sym k.6 ∙ is)) ]
  where
    by : (xs : List PacketFacts) (front : List Run) (r : Run) (ys : List (ℕ × Fate)) (k : ℕ) → rs ≡ front ++ r ∷ [] → r.count ≡ suc k
        → ys ++ (r.first + k, r.fate) ∷ [] ≡ all_written 0 xs → Joins rs (length xs) (fate.Written 0)
    by [] front r ys k split count e = absurd (none ys _ e)
      where
        none : (ys : List (ℕ × Fate)) (z : ℕ × Fate) → ys ++ z ∷ [] ≡ [] → ⊥
        none [] z e = cc e
        none (y ∷ ys) z e = cc e
    by (x ∷ xs) front r ys k split count e =
        let w = last_written 0 x xs in
        let ends = same_ends ys w.0 _ _ (e ∙ w.1) in
        let pair = same_pair (r.first + k, r.fate) (0 + length xs, fate.Written 0) refl refl ends.1 in
        (front, r, split, pair.1, inl (omega (arith, count, pair.0)))

-- where room is refused, memory was wanted before, or there is a note
pub refused_room : {out : Origin} {o : FifoOptions} {L : List Packet} (p : Packet) (i : ℕ) (facts : PacketFacts) (f : Fate) (b : Bool) (v w : JobView)
    (k : Keeps out o L v) → MakesRoom i f v b w → b ≡ false → length L ≡ i → facts ≡ facts_of out p
    → f ≡ expected_in o k.history (action_of o k.history i facts) → asks_list out.seg ≡ false → v.faults ≡ [] → Rose out.shelf.wants v.shelf.wants
refused_room {out = out} {o = o} {L = L} p i facts f b v w k m refused at same is unlisted none = by (wanted k.history) refl
  where
    by : (x : Bool) → wanted k.history ≡ x → Rose out.shelf.wants v.shelf.wants
    by true u = k.stands.table.excuse unlisted (L, refl) u none
    by false u =
        let h = k.history in
        let told : NotesTell h [] = rw none at k.stands.table.notes in
        let clean = all_done h told u in
        let whole = whole_run o (map (facts_of out) L) h (subst (λ (ts : List Turn). Follows o ts h) (turns_come out 0 L) k.follows) clean in
        let size : length (map (facts_of out) L) ≡ length L = length-map L (facts_of out) in
        let act = rw (size, at) at (writes o (length (map (facts_of out) L)) h facts whole.0) in
        let session : trying o h ≡ 0 = rw (whole.0.live, whole.0.session) refl in
        let written : f ≡ fate.Written 0 = is ∙ ap (expected_in o h) act ∙ ap fate.Written session in
        let goes_on = all_joins v.runs (end_from 0 (sent_from 0 L)) (map (facts_of out) L) k.stands.order.0 (k.stands.table.fates ∙ plain_fates L h k.stands.indexed ∙ whole.1) in
        let r = m.refused refused in
        absurd (elim goes_on [
          | inl e ↦ r.1 (k.stands.places.first e)
          | inr j ↦ r.0 (rw (written, ← at) (rw size at j))
        ])

-- the same of what was given without gaps
pub refused_gapless : {out : Origin} {o : FifoOptions} (T : List Given) (p : Packet) (i : ℕ) (facts : PacketFacts) (f : Fate) (b : Bool) (v w : JobView)
    (k : KeepsAll out o T v) → MakesRoom i f v b w → b ≡ false → facts ≡ facts_of out p
    → f ≡ expected_in o k.history (action_of o k.history i facts) → asks_list out.seg ≡ false → IsGapless (T ++ Sent i p ∷ []) → v.faults ≡ [] → Rose out.shelf.wants v.shelf.wants
refused_gapless {out = out} {o = o} T p i facts f b v w k m refused same is unlisted gapless none =
    let g = gapless_last T (Sent i p) gapless in
    let index : i ≡ 0 + length g.0 = ap index_of g.3 in
    let follows : Follows o (map (turn_of out) (sent_from 0 g.0)) k.history = subst (λ (ts : List Given). Follows o (map (turn_of out) ts) k.history) g.2 k.follows in
    let kept : Keeps out o g.0 v = record {
      history = k.history;
      follows = rw (sent_turns out 0 g.0) at follows;
      stands = subst (λ (ts : List Given). Stands out o ts k.history v) g.2 k.stands;
    } in
    refused_room p i facts f b v w kept m refused (omega (arith, index)) same is unlisted none

-- a packet that is flushed leaves a gap
pub swept_gap : (T : List Given) (i n : ℕ) → IsGapless (T ++ Swept i n ∷ []) → ⊥
swept_gap T i n gapless = let g = gapless_last T (Swept i n) gapless in cc g.3
