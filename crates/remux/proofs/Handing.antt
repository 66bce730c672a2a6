-- A packet that was pushed and what was given then.
use Rattle.std.proofs.Common.{◌≡◌, ℕ, ◌-◌, ◌<◌, Bool, true, false, ◌||◌, ◌&&◌, List, [], ◌∷◌, ◌++◌, length, ap, ◌∙◌, sym, refl, subst, arith, zero, suc}
use Rattle.std.specs.Prelude.{if◌then◌else◌, ◌==◌, ℤ, negsuc, is_some, Result, Ok, Err, IfOk, OnErr}
use Rattle.std.proofs.lemmas.List.Sums.{fold-append}
use Rattle.std.proofs.lemmas.List.{append-nil}
use Rattle.rmx_media.specs.declared.packet.Packet.{Packet}
use Rattle.interleaver.specs.Interleave.{Line, release, may_go, IsLined, emitted}
use Rattle.interleaver.specs.Queues.{Pending, Pushed, goes, last_of, front_dts}
use Rattle.interleaver.proofs.Steps.{lined_push, lined_stuck, emitted_adds}
use Rattle.tee.specs.declared.fed.Fed.{Fed}
use Rattle.flv_demux.specs.Deal.{last_dts}
use Rattle.remux.specs.Flow.{Flow}
use Rattle.remux.proofs.Giving.{no_rise}
use Rattle.remux.specs.Gave.{GaveSome}
use Rattle.remux.specs.Handed.{GaveAll, Handed, HandedSome}

pub last_dts-one : (k : ℕ) (packets : List Packet) (p : Packet) → last_dts k (packets ++ p ∷ []) ≡ (if p.stream == k then p.dts else last_dts k packets)
last_dts-one k packets p = fold-append (λ (dts : ℤ) (q : Packet). if q.stream == k then q.dts else dts) (negsuc 9223372036854775807) packets (p ∷ [])

pub stuck_line : (v : Pending) → goes v ≡ false → may_go v.streams v.delta v.pending ≡ false
stuck_line v e = right (v.finished && is_some (front_dts v.pending)) (may_go v.streams v.delta v.pending) e
  where
    right : (a b : Bool) → (a || b) ≡ false → b ≡ false
    right true b e = absurd (no e)
      where
        no : true ≡ false → ⊥
        no h = cc
    right false b e = e

two_lasts : (old mid : Pending) (p : Packet) (packets : List Packet) → p.stream < 2 → Pushed p old mid → old.first_last ≡ last_dts 0 packets → old.second_last ≡ last_dts 1 packets → (mid.first_last ≡ last_dts 0 (packets ++ p ∷ [])) × (mid.second_last ≡ last_dts 1 (packets ++ p ∷ []))
two_lasts old mid p packets few h a b = rw (last_dts-one 0 packets p, last_dts-one 1 packets p) (by p.stream few h.last h.other)
  where
    by : (k : ℕ) → k < 2 → last_of mid k ≡ p.dts → last_of mid (1 - k) ≡ last_of old (1 - k) → (mid.first_last ≡ (if k == 0 then p.dts else last_dts 0 packets)) × (mid.second_last ≡ (if k == 1 then p.dts else last_dts 1 packets))
    by zero few l o = (l, o ∙ b)
    by (suc zero) few l o = (o ∙ a, l)
    by (suc (suc k)) few l o = absurd (omega arith)

lined_at : (n m d e : ℕ) (packets given q r : List Packet) → n ≡ m → d ≡ e → q ≡ r → IsLined n d packets given q → IsLined m e packets given r
lined_at n m d e packets given q r a b c h = subst (λ (x : ℕ). IsLined x e packets given r) a (subst (λ (x : ℕ). IsLined n x packets given r) b (subst (λ (x : List Packet). IsLined n d packets given x) c h))

pub handed_by : (fed : Fed) (old mid new : Pending) (p : Packet) (k0 k1 : List Packet → Type 0) (d0 d1 : ℕ → Bool) (packets given : List Packet) →
    p.stream < 2 → goes old ≡ false → Pushed p old mid → GaveAll fed mid new k0 k1 d0 d1 → Flow packets given old → k0 given → Handed fed (packets ++ p ∷ []) given new k1 d0 d1
handed_by fed old mid new p k0 k1 d0 d1 packets given few stuck h g f k =
    let l : IsLined mid.streams mid.delta (packets ++ p ∷ []) given mid.pending =
    lined_at _ _ _ _ _ _ _ _ (sym h.streams) (sym h.delta) (sym h.pending) (lined_push old.streams old.delta packets given old.pending p (stuck_line old stuck) f.lined) in
    let l2 : IsLined mid.streams mid.delta (packets ++ p ∷ []) (given ++ g.gave.packets) new.pending = sym (g.gave.line given) ∙ l in
    let t = two_lasts old mid p packets few h f.first f.second in
    record {
      more = g.gave.packets;
      some = g.gave.some;
      kept = g.gave.keeps_all given k;
      flow = record {
        lined = lined_at mid.streams new.streams mid.delta new.delta (packets ++ p ∷ []) (given ++ g.gave.packets) new.pending new.pending (sym (ap (λ (v : Pending). v.streams) g.same)) (sym (ap (λ (v : Pending). v.delta) g.same)) refl l2;
        first = ap (λ (v : Pending). v.first_last) g.same ∙ t.0;
        second = ap (λ (v : Pending). v.second_last) g.same ∙ t.1;
        unfinished = ap (λ (v : Pending). v.finished) g.same ∙ h.finished ∙ f.unfinished;
      };
      advances = g.gave.dead given k;
      stuck = g.stuck;
    }

pub if_ok : {T E : Type 0} (r : Result T E) (P Q : T → Type 0) → IfOk r P → ((x : T) → P x → Q x) → IfOk r Q
if_ok (Ok x) P Q h f = f x h
if_ok (Err e) P Q h f = h

pub on_err : {T E : Type 0} (r : Result T E) (P : Type 0) (Q : Type 0) → OnErr r P → (P → Q) → OnErr r Q
on_err (Ok x) P Q h f = h
on_err (Err e) P Q h f = f h

-- memory was wanted behind the push
pub handed_some : (old mid : Pending) (p : Packet) (k0 k1 : List Packet → Type 0) (d0 d1 : ℕ → Bool) (packets given : List Packet) →
    goes old ≡ false → Pushed p old mid → GaveSome mid.streams mid.delta mid.pending k0 k1 d0 d1 → Flow packets given old → k0 given → HandedSome old.streams old.delta (packets ++ p ∷ []) given k1 d0 d1
handed_some old mid p k0 k1 d0 d1 packets given stuck h g f k =
    let l : IsLined old.streams old.delta (packets ++ p ∷ []) given mid.pending =
    lined_at _ _ _ _ _ _ _ _ refl refl (sym h.pending) (lined_push old.streams old.delta packets given old.pending p (stuck_line old stuck) f.lined) in
    let r = subst (λ (n : ℕ). (rest : List Packet) × ((release n old.delta given mid.pending).out ≡ (given ++ g.packets) ++ rest)) h.streams
    (subst (λ (d : ℕ). (rest : List Packet) × ((release mid.streams d given mid.pending).out ≡ (given ++ g.packets) ++ rest)) h.delta (g.line given)) in
    record {
      more = g.packets;
      rest = r.0;
      kept = g.keeps_all given k;
      order = ap (λ (x : Line). x.out) (sym l) ∙ r.1;
      advances = g.dead given k;
    }

-- or the push wanted it
pub not_pushed : (old : Pending) (p : Packet) (k0 : List Packet → Type 0) (d0 : ℕ → Bool) (packets given : List Packet) →
    goes old ≡ false → Flow packets given old → k0 given → HandedSome old.streams old.delta (packets ++ p ∷ []) given k0 d0 d0
not_pushed old p k0 d0 packets given stuck f k =
    let e : emitted old.streams old.delta packets ≡ given = ap (λ (l : Line). l.out) (lined_stuck old.streams old.delta packets given old.pending (stuck_line old stuck) f.lined) in
    let r = emitted_adds old.streams old.delta packets (p ∷ []) in
    record {
      more = [];
      rest = r.0;
      kept = subst k0 (sym (append-nil given)) k;
      order = r.1 ∙ ap (λ (xs : List Packet). xs ++ r.0) (e ∙ sym (append-nil given));
      advances = no_rise d0 (length given);
    }
