-- What is given at the end.
use Rattle.std.proofs.Common.{◌≡◌, ℕ, ◌+◌, Bool, true, false, List, [], ◌∷◌, ◌++◌, length, append_assoc, ap, ◌∙◌, sym, refl, subst, arith, length-append}
use Rattle.std.proofs.lemmas.List.{append-nil}
use Rattle.rmx_media.specs.declared.packet.Packet.{Packet}
use Rattle.interleaver.specs.Interleave.{Line, interleave}
use Rattle.interleaver.specs.Queues.{Pending, goes}
use Rattle.interleaver.proofs.Steps.{lined_stuck}
use Rattle.remux.specs.Fed.{Takes}
use Rattle.remux.specs.Flow.{Flow}
use Rattle.remux.specs.Gave.{Advances, Flushed, FlushedSome}
use Rattle.remux.proofs.Giving.{advances_still, no_rise, one_rise}
use Rattle.remux.proofs.Handing.{stuck_line}

-- some was given, and this is left
pub record Flushing (pending rest : List Packet) (kept keeps : List Packet → Type 0) (old new : ℕ → Bool) : Type 0 where
  pub packets : List Packet
  pub whole : pending ≡ packets ++ rest
  pub keeps_all : (given : List Packet) → kept given → keeps (given ++ packets)
  pub dead : (given : List Packet) → kept given → Advances false old new (length given) (length given + length packets)

pub flush_start : (pending : List Packet) (k : List Packet → Type 0) (d : ℕ → Bool) → Flushing pending pending k k d d
flush_start pending k d = record { packets = []; whole = refl; keeps_all = λ given h. subst k (sym (append-nil given)) h; dead = λ given h. no_rise d (length given) }

pub flush_one : (stopped : Bool) (pending rest now : List Packet) (p : Packet) (k0 k1 k2 : List Packet → Type 0) (d0 d1 d2 : ℕ → Bool) →
    (f : Flushing pending now k0 k1 d0 d1) → now ≡ p ∷ rest → Takes stopped p k1 k2 d1 d2 →
    (pending ≡ (f.packets ++ p ∷ []) ++ rest) × ((given : List Packet) → k0 given → k2 (given ++ (f.packets ++ p ∷ []))) × ((given : List Packet) → k0 given → Advances stopped d0 d2 (length given) (length given + length (f.packets ++ p ∷ [])))
flush_one stopped pending rest now p k0 k1 k2 d0 d1 d2 f e t = (
  f.whole ∙ ap (λ (l : List Packet). f.packets ++ l) e ∙ sym (append_assoc f.packets (p ∷ []) rest),
  λ given k. subst k2 (append_assoc given f.packets (p ∷ [])) (t.keeps_all (given ++ f.packets) (f.keeps_all given k)),
  λ given k.
      let len : length (given ++ f.packets) ≡ length given + length f.packets = length-append given f.packets in
      let len2 : length given + length (f.packets ++ p ∷ []) ≡ (length given + length f.packets) + 1 = omega (arith, length-append f.packets (p ∷ [])) in
      subst (λ (m : ℕ). Advances stopped d0 d2 (length given) m) (sym len2)
      (one_rise stopped d0 d1 d2 (length given) (length given + length f.packets) (f.dead given k) (omega arith)
      (λ u h. t.same (given ++ f.packets) u (f.keeps_all given k) (omega arith))
      (ap (λ (m : ℕ). d2 (m + 1)) (sym len) ∙ t.told (given ++ f.packets) (f.keeps_all given k))),
)

pub flush_more : (pending rest now : List Packet) (p : Packet) (k0 k1 k2 : List Packet → Type 0) (d0 d1 d2 : ℕ → Bool) →
    Flushing pending now k0 k1 d0 d1 → now ≡ p ∷ rest → Takes false p k1 k2 d1 d2 → Flushing pending rest k0 k2 d0 d2
flush_more pending rest now p k0 k1 k2 d0 d1 d2 f e t =
    let r = flush_one false pending rest now p k0 k1 k2 d0 d1 d2 f e t in
    record { packets = f.packets ++ p ∷ []; whole = r.0; keeps_all = r.1; dead = r.2 }

pub flush_stop : (pending rest now : List Packet) (p : Packet) (k0 k1 k2 : List Packet → Type 0) (d0 d1 d2 : ℕ → Bool) →
    Flushing pending now k0 k1 d0 d1 → now ≡ p ∷ rest → Takes true p k1 k2 d1 d2 → Flushed true pending rest k0 k2 d0 d2
flush_stop pending rest now p k0 k1 k2 d0 d1 d2 f e t =
    let r = flush_one true pending rest now p k0 k1 k2 d0 d1 d2 f e t in
    record { packets = f.packets ++ p ∷ []; whole = r.0; all = λ h. absurd (no h); some = λ h. omega (arith, length-append f.packets (p ∷ [])); keeps_all = r.1; dead = r.2 }
  where
    no : true ≡ false → ⊥
    no h = cc

-- memory was wanted on the way
pub flush_some : (pending now : List Packet) (k0 k1 k2 : List Packet → Type 0) (d0 d1 d2 : ℕ → Bool) → Flushing pending now k0 k1 d0 d1
    → ((given : List Packet) → k1 given → k2 given) → ((u : ℕ) → d2 u ≡ d1 u) → FlushedSome pending k0 k2 d0 d2
flush_some pending now k0 k1 k2 d0 d1 d2 f keeps dead = record {
  packets = f.packets;
  rest = now;
  whole = f.whole;
  keeps_all = λ given k. keeps (given ++ f.packets) (f.keeps_all given k);
  dead = λ given k. advances_still false d0 d1 d2 (length given) (length given + length f.packets) dead (f.dead given k);
}

-- all that went out and all that is given at the end is the whole order
pub whole_order : (packets given : List Packet) (v : Pending) → goes v ≡ false → Flow packets given v → interleave v.streams v.delta packets ≡ given ++ v.pending
whole_order packets given v stuck f = ap (λ (l : Line). l.out ++ l.pending) (lined_stuck v.streams v.delta packets given v.pending (stuck_line v stuck) f.lined)
