-- Behind a lane that refuses nothing, an output gets all its packets, each as it is.
use Rattle.std.proofs.Common.{◌≡◌, ℕ, suc, ◌+◌, ◌<◌, ◌≤◌, inl, inr, false, List, [], ◌∷◌, length, slice_get, Some, refl, ap, sym, ◌∙◌, subst, arith}
use Rattle.fifo_core.specs.declared.types.FifoOptions.{FifoOptions}
use Rattle.lane.specs.Sides.{ReceiptSide}
use Rattle.rmx_media.specs.declared.packet.Packet.{Packet}
use Rattle.slave.specs.declared.records.LaneNote.{LaneNote}
use Rattle.slave.specs.AccountsAll.{GivesAt, SweptAt}
use Rattle.slave.specs.End.{EndView, Ended, EndedAll, EndedAllBy}
use Rattle.slave.specs.Given.{Given, Sent, Swept, index_of, Gives, sent_from}
use Rattle.slave.specs.LaneAccounts.{Dealt, is_named}
use Rattle.slave.specs.Origin.{Origin}
use Rattle.slave.proofs.AccountedAll.{climbs}
use Rattle.slave.proofs.Covers.{Climbs}
use Rattle.slave.proofs.Direct.{ended_direct}

-- what climbs from n on has no lower index
climbs_low : (n : ℕ) (T : List Given) (i : ℕ) → Climbs n T → GivesAt T i → n ≤ i
climbs_low n [] i c g = absurd g
climbs_low n (t ∷ T) i c (inl e) = omega (arith, c.0, e)
climbs_low n (t ∷ T) i c (inr g) = (let r = climbs_low (index_of t + 1) T i c.1 g in omega (arith, c.0, r))

-- the first has the lowest index
first_at : (n j : ℕ) (q : Packet) (T : List Given) → n ≤ j → Climbs (j + 1) T → GivesAt (Sent j q ∷ T) n → j ≡ n
first_at n j q T le c (inl e) = e
first_at n j q T le c (inr g) = absurd (let r = climbs_low (j + 1) T n c g in omega (arith, le, r))

-- and the others come behind it
other_at : (j i : ℕ) (q : Packet) (T : List Given) → j < i → GivesAt (Sent j q ∷ T) i → GivesAt T i
other_at j i q T lt (inl e) = absurd (omega (arith, lt, e))
other_at j i q T lt (inr g) = g

some_same : (p q : Packet) → Some p ≡ Some q → q ≡ p
some_same p q e = (let r : p ≡ q = cc in sym r)

-- Something is given for each place, and nothing else. What is given is the packet there.
all_sent : (n : ℕ) (L : List Packet) (T : List Given) → Climbs n T → ((i : ℕ) → n ≤ i → i < n + length L → GivesAt T i) → ((i : ℕ) → GivesAt T i → i < n + length L)
    → ((i v : ℕ) → SweptAt T i v → ⊥) → ((i : ℕ) (p : Packet) → Gives T (n + i) p → slice_get L i ≡ Some p) → T ≡ sent_from n L
all_sent n [] [] c each apart calm at = refl
all_sent n [] (t ∷ T) c each apart calm at = absurd (let r = apart (index_of t) (inl refl) in omega (arith, c.0, r))
all_sent n (p ∷ L) [] c each apart calm at = absurd (each n (omega arith) (omega arith))
all_sent n (p ∷ L) (Swept j v ∷ T) c each apart calm at = absurd (calm j v (inl (refl, refl)))
all_sent n (p ∷ L) (Sent j q ∷ T) c each apart calm at =
    let first : j ≡ n = first_at n j q T c.0 c.1 (each n (omega arith) (omega arith)) in
    let here : j ≡ n + 0 = omega (arith, first) in
    let same : q ≡ p = some_same p q (at 0 q (inl (here, refl))) in
    let rest : T ≡ sent_from (n + 1) L =
    all_sent (n + 1) L T
    (subst (λ (m : ℕ). Climbs (m + 1) T) first c.1)
    (λ i lo hi. other_at j i q T (omega (arith, first, lo)) (each i (omega (arith, lo)) (omega (arith, hi))))
    (λ i g. let r = apart i (inr g) in omega (arith, r))
    (λ i v s. calm i v s)
    (λ i x g. at (suc i) x (inr (let e : (n + 1) + i ≡ n + suc i = omega arith in subst (λ (m : ℕ). Gives T m x) e g))) in
    ap (λ (m : ℕ). Sent m q ∷ T) first ∙ ap (λ (x : Packet). Sent n x ∷ T) same ∙ ap (λ (ts : List Given). Sent n p ∷ ts) rest

-- so it ends as one without a lane
pub plain_end : (g : Origin) (o : FifoOptions) (L : List Packet) (T : List Given) (numbers : List (ℕ × ℕ)) (note : LaneNote) (w : EndView) → (k : EndedAll g o T w) → Dealt L T numbers note → note.receipts.items ≡ [] → Ended g o L w
plain_end g o L T numbers note w k d none = (ended_direct (subst (λ (ts : List Given). EndedAllBy g o ts k.history w) all (k, refl))).0
  where
    calm : (i v : ℕ) → SweptAt T i v → ⊥
    calm i v s =
        let st = d.stretches i v s in
        let seen = d.seen st.1.place (v, length st.1.front) st.1.seen in
        absurd (omega (arith, st.0, seen.0, ap length none))

    named : (i : ℕ) → is_named note.receipts.items i ≡ false
    named i = ap (λ (rs : List ReceiptSide). is_named rs i) none

    all : T ≡ sent_from 0 L
    all = all_sent 0 L T (climbs k) (λ i lo hi. d.each i (omega (arith, hi)) (named i)) (λ i x. let r = (d.apart i x).0 in omega (arith, r)) calm
        (λ i p x. d.packets i p (let e : 0 + i ≡ i = omega arith in subst (λ (m : ℕ). Gives T m p) e x))
