-- Packets given one after another.
use Rattle.std.proofs.Common.{◌≡◌, ℕ, ◌+◌, ◌<◌, ◌≤◌, ◌⊎◌, Bool, true, false, ◌||◌, ◌&&◌, List, [], ◌∷◌, ◌++◌, length, append_assoc, ap, ◌∙◌, sym, refl, subst, arith, length-append, inl, inr, Option, Some, None}
use Rattle.std.specs.Prelude.{ℤ, is_some}
use Rattle.std.specs.Prelude.{if◌then◌else◌}
use Rattle.std.proofs.lemmas.Bool.{cases_lt}
use Rattle.std.proofs.lemmas.List.{append-nil}
use Rattle.rmx_media.specs.declared.packet.Packet.{Packet}
use Rattle.interleaver.specs.Interleave.{Line, release, may_go}
use Rattle.interleaver.proofs.Steps.{release_adds}
use Rattle.interleaver.specs.Queues.{Pending, Pops, front_dts}
use Rattle.tee.specs.declared.fed.Fed.TheVariants.{More, Stop}
use Rattle.remux.specs.Fed.{Takes}
use Rattle.remux.specs.Gave.{Advances, Gave, GaveSome}
use Rattle.remux.specs.Handed.{GaveAll}

pub no_rise : (dead : ℕ → Bool) (n : ℕ) → Advances false dead dead n (n + 0)
no_rise dead n = record { same = λ u h. refl; alive = λ u h k. absurd (omega arith); last = λ h. absurd (omega arith) }

pub gave_none : (n delta : ℕ) (pending : List Packet) (kept : List Packet → Type 0) (dead : ℕ → Bool) → Gave false n delta pending pending kept kept dead dead
gave_none n delta pending kept dead = record {
  packets = [];
  some = λ e. absurd (no e);
  line = λ out. ap (λ (o : List Packet). release n delta o pending) (sym (append-nil out));
  keeps_all = λ given k. subst kept (sym (append-nil given)) k;
  dead = λ given k. no_rise dead (length given);
}
  where
    no : false ≡ true → ⊥
    no h = cc

pub one_rise : (stopped : Bool) (d0 d1 d2 : ℕ → Bool) (n m : ℕ) → Advances false d0 d1 n m → n ≤ m → ((u : ℕ) → u ≤ m → d2 u ≡ d1 u) → d2 (m + 1) ≡ stopped → Advances stopped d0 d2 n (m + 1)
one_rise stopped d0 d1 d2 n m a le same told = record {
  same = λ u h. same u (omega arith) ∙ a.same u h;
  alive = λ u h k. before u h (omega arith);
  last = λ h. told;
}
  where
    at_last : (u : ℕ) → n < u → u ≤ m → (u < m) ⊎ (m ≤ u) → d1 u ≡ false
    at_last u h k (inl lt) = a.alive u h lt
    at_last u h k (inr ge) = let e : u ≡ m = omega arith in ap d1 e ∙ a.last (omega arith)

    before : (u : ℕ) → n < u → u ≤ m → d2 u ≡ false
    before u h k = same u k ∙ at_last u h k (cases_lt u m)

pub gave_one : (stopped : Bool) (n delta : ℕ) (pending rest : List Packet) (p : Packet) (k0 k1 k2 : List Packet → Type 0) (d0 d1 d2 : ℕ → Bool) →
    Gave false n delta pending (p ∷ rest) k0 k1 d0 d1 → may_go n delta (p ∷ rest) ≡ true → Takes stopped p k1 k2 d1 d2 → Gave stopped n delta pending rest k0 k2 d0 d2
gave_one stopped n delta pending rest p k0 k1 k2 d0 d1 d2 g go t = record {
  packets = g.packets ++ p ∷ [];
  some = λ e. omega (arith, length-append g.packets (p ∷ []));
  line = λ out. g.line out
      ∙ ap (λ (b : Bool). if b then release n delta ((out ++ g.packets) ++ p ∷ []) rest else record { out = out ++ g.packets; pending = p ∷ rest }) go
      ∙ ap (λ (o : List Packet). release n delta o rest) (append_assoc out g.packets (p ∷ []));
  keeps_all = λ given k. subst k2 (append_assoc given g.packets (p ∷ [])) (t.keeps_all (given ++ g.packets) (g.keeps_all given k));
  dead = λ given k.
      let len : length (given ++ g.packets) ≡ length given + length g.packets = length-append given g.packets in
      let len2 : length given + length (g.packets ++ p ∷ []) ≡ (length given + length g.packets) + 1 = omega (arith, length-append g.packets (p ∷ [])) in
      subst (λ (m : ℕ). Advances stopped d0 d2 (length given) m) (sym len2)
      (one_rise stopped d0 d1 d2 (length given) (length given + length g.packets) (g.dead given k) (omega arith)
      (λ u h. t.same (given ++ g.packets) u (g.keeps_all given k) (omega arith))
      (ap (λ (m : ℕ). d2 (m + 1)) (sym len) ∙ t.told (given ++ g.packets) (g.keeps_all given k)));
}

-- a pop from an open line takes what may go
pub pop_goes : (old new : Pending) (p : Packet) → old.finished ≡ false → Pops (Some p) old new → may_go old.streams old.delta (p ∷ new.pending) ≡ true
pop_goes old new p f h = subst (λ (q : List Packet). may_go old.streams old.delta q ≡ true) h.1 (open_goes old.finished (front_dts old.pending) (may_go old.streams old.delta old.pending) f h.0)
  where
    open_goes : (b : Bool) (o : Option ℤ) (g : Bool) → b ≡ false → ((b && is_some o) || g) ≡ true → g ≡ true
    open_goes true o g e h = absurd (no e)
      where
        no : true ≡ false → ⊥
        no h = cc
    open_goes false o g e h = h

abbrev pub Given : (initial now : Pending) (k0 k1 : List Packet → Type 0) (d0 d1 : ℕ → Bool) → Type 0
Given initial now k0 k1 d0 d1 = Gave false initial.streams initial.delta initial.pending now.pending k0 k1 d0 d1 × (now ≡ record initial { pending = now.pending })

same_pop : (initial now next : Pending) (q : List Packet) → now ≡ record initial { pending = q } → next ≡ record now { pending = next.pending } → next ≡ record initial { pending = next.pending }
same_pop initial now next q e f = f ∙ ap (λ (v : Pending). record v { pending = next.pending }) e

-- one more was given
pub given_one : (stopped : Bool) (initial now next : Pending) (p : Packet) (k0 k1 k2 : List Packet → Type 0) (d0 d1 d2 : ℕ → Bool) →
    initial.finished ≡ false → Given initial now k0 k1 d0 d1 → Pops (Some p) now next → Takes stopped p k1 k2 d1 d2 →
    Gave stopped initial.streams initial.delta initial.pending next.pending k0 k2 d0 d2 × (next ≡ record initial { pending = next.pending })
given_one stopped initial now next p k0 k1 k2 d0 d1 d2 ope g h t =
    let f : now.finished ≡ false = ap (λ (v : Pending). v.finished) g.1 ∙ ope in
    let n : now.streams ≡ initial.streams = ap (λ (v : Pending). v.streams) g.1 in
    let d : now.delta ≡ initial.delta = ap (λ (v : Pending). v.delta) g.1 in
    let go : may_go initial.streams initial.delta (p ∷ next.pending) ≡ true = subst (λ (m : ℕ). may_go m initial.delta (p ∷ next.pending) ≡ true) n (subst (λ (m : ℕ). may_go now.streams m (p ∷ next.pending) ≡ true) d (pop_goes now next p f h)) in
    let g' : Gave false initial.streams initial.delta initial.pending (p ∷ next.pending) k0 k1 d0 d1 = subst (λ (q : List Packet). Gave false initial.streams initial.delta initial.pending q k0 k1 d0 d1) h.1 g.0 in
    (gave_one stopped initial.streams initial.delta initial.pending next.pending p k0 k1 k2 d0 d1 d2 g' go t, same_pop initial now next now.pending g.1 h.2)

pub stopped_all : (initial now next : Pending) (p : Packet) (k0 k1 k2 : List Packet → Type 0) (d0 d1 d2 : ℕ → Bool) →
    initial.finished ≡ false → Given initial now k0 k1 d0 d1 → Pops (Some p) now next → Takes true p k1 k2 d1 d2 → GaveAll Stop initial next k0 k2 d0 d2
stopped_all initial now next p k0 k1 k2 d0 d1 d2 ope g h t =
    let r = given_one true initial now next p k0 k1 k2 d0 d1 d2 ope g h t in
    record { gave = r.0; same = r.1; stuck = λ e. absurd (no e) }
  where
    no : true ≡ false → ⊥
    no h = cc

pub gave_all : (initial now next : Pending) (k0 k1 : List Packet → Type 0) (d0 d1 : ℕ → Bool) →
    Given initial now k0 k1 d0 d1 → Pops None now next → GaveAll More initial next k0 k1 d0 d1
gave_all initial now next k0 k1 d0 d1 g h =
    subst (λ (v : Pending). GaveAll More initial v k0 k1 d0 d1) (sym h.1) record { gave = g.0; same = g.1; stuck = λ e. h.0 }

pub given_start : (initial : Pending) (k : List Packet → Type 0) (d : ℕ → Bool) → Given initial initial k k d d
given_start initial k d = (gave_none initial.streams initial.delta initial.pending k d, refl)

-- the same is known
pub advances_still : (stopped : Bool) (d0 d1 d2 : ℕ → Bool) (n m : ℕ) → ((u : ℕ) → d2 u ≡ d1 u) → Advances stopped d0 d1 n m → Advances stopped d0 d2 n m
advances_still stopped d0 d1 d2 n m e a = record { same = λ u h. e u ∙ a.same u h; alive = λ u h k. e u ∙ a.alive u h k; last = λ h. e m ∙ a.last h }

-- memory was wanted on the way
pub gave_some : (initial now : Pending) (k0 k1 k2 : List Packet → Type 0) (d0 d1 d2 : ℕ → Bool) → Given initial now k0 k1 d0 d1
    → ((given : List Packet) → k1 given → k2 given) → ((u : ℕ) → d2 u ≡ d1 u) → GaveSome initial.streams initial.delta initial.pending k0 k2 d0 d2
gave_some initial now k0 k1 k2 d0 d1 d2 g keeps dead = record {
  packets = g.0.packets;
  line = λ out.
      let r = release_adds initial.streams initial.delta (out ++ g.0.packets) now.pending in
      (r.0, ap (λ (l : Line). l.out) (g.0.line out) ∙ r.1);
  keeps_all = λ given k. keeps (given ++ g.0.packets) (g.0.keeps_all given k);
  dead = λ given k. advances_still false d0 d1 d2 (length given) (length given + length g.0.packets) dead (g.0.dead given k);
}
