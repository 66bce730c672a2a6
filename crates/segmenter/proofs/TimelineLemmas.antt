-- One packet more on a timeline, and its entries.
use Rattle.std.proofs.Common.{◌≡◌, ℕ, ◌+◌, arith, true, false, cond, List, [], ◌∷◌, ◌++◌, length, refl, ap, ◌∙◌, sym, subst, ℤ, pos, ◌-ℤ◌, Option, Some}
use Rattle.std.specs.Prelude.{int_lt}
use Rattle.std.specs.Int.{int_max}
use Rattle.std.proofs.lemmas.Int.{ints}
use Rattle.std.proofs.lemmas.List.Elements.{All-push}
use Rattle.std.proofs.lemmas.List.Sums.{fold_push}
use Rattle.std.specs.List.{All}
use Rattle.playlist.specs.declared.list.ListEntry.{ListEntry}
use Rattle.playlist.specs.List.{IsInRange}
use Rattle.rmx_edge.specs.Count.{raised}
use Rattle.rmx_edge.proofs.Run.{raised-raised}
use Rattle.rmx_media.specs.declared.packet.Packet.{Packet}
use Rattle.segmenter.specs.Entries.{entry, entries_from, zero_of, greatest_pts}
use Rattle.segmenter.specs.Near.{since, zero_with, top_with}
use Rattle.segmenter.specs.Session.{Session}
use Rattle.segmenter.specs.Timeline.{closed_from, start_from, first_pts, Shows, KeepsTimes}
use Rattle.segmenter.specs.declared.timeline.Timeline.{Timeline}

pub raised_none : (n : ℕ) → raised n 0 ≡ n
raised_none n = omega arith

pub closed_push : (zero : ℤ) (n : ℕ) (start : ℤ) (ps : List Packet) (p : Packet)
    → closed_from zero n start (ps ++ p ∷ []) ≡ closed_from zero n start ps ++ entry (raised n (length ps)) (start_from zero start ps) (p.pts -ℤ zero) ∷ []
closed_push zero n start [] p = ap (λ (m : ℕ). entry m start (p.pts -ℤ zero) ∷ []) (sym (raised_none n))
closed_push zero n start (q ∷ ps) p =
    let more : raised (raised n 1) (length ps) ≡ raised n (length (q ∷ ps)) = raised-raised n 1 (length ps) ∙ (let e : 1 + length ps ≡ length (q ∷ ps) = omega arith in ap (raised n) e) in
    ap (λ (es : List ListEntry). entry n start (q.pts -ℤ zero) ∷ es)
    (closed_push zero (raised n 1) (q.pts -ℤ zero) ps p
    ∙ ap (λ (m : ℕ). closed_from zero (raised n 1) (q.pts -ℤ zero) ps ++ entry m (start_from zero (q.pts -ℤ zero) ps) (p.pts -ℤ zero) ∷ []) more)

pub start_push : (zero start : ℤ) (ps : List Packet) (p : Packet) → start_from zero start (ps ++ p ∷ []) ≡ p.pts -ℤ zero
start_push zero start [] p = refl
start_push zero start (q ∷ ps) p = start_push zero (q.pts -ℤ zero) ps p

-- the entries of all files are those of the files that ended, and that of the last one
pub entries_are : (zero end : ℤ) (n : ℕ) (start : ℤ) (ps : List Packet)
    → entries_from zero end n start ps ≡ closed_from zero n start ps ++ entry (raised n (length ps)) (start_from zero start ps) end ∷ []
entries_are zero end n start [] = ap (λ (m : ℕ). entry m start end ∷ []) (sym (raised_none n))
entries_are zero end n start (q ∷ ps) =
    let more : raised (raised n 1) (length ps) ≡ raised n (length (q ∷ ps)) = raised-raised n 1 (length ps) ∙ (let e : 1 + length ps ≡ length (q ∷ ps) = omega arith in ap (raised n) e) in
    ap (λ (es : List ListEntry). entry n start (q.pts -ℤ zero) ∷ es)
    (entries_are zero end (raised n 1) (q.pts -ℤ zero) ps
    ∙ ap (λ (m : ℕ). closed_from zero (raised n 1) (q.pts -ℤ zero) ps ++ entry m (start_from zero (q.pts -ℤ zero) ps) end ∷ []) more)

pub since_is : (before : List Packet) (pts : ℤ) → since (first_pts before) pts ≡ pts -ℤ zero_of before
since_is [] pts = omega (arith, ints)
since_is (p ∷ ps) pts = refl

zero_push : (before : List Packet) (p : Packet) → Some (zero_with (first_pts before) p.pts) ≡ first_pts (before ++ p ∷ [])
zero_push [] p = refl
zero_push (q ∷ ps) p = refl

abbrev pub of_pts : ℤ → Packet → ℤ
of_pts top p = int_max top p.pts

max_same : (x : ℤ) → int_max x x ≡ x
max_same x = elim (int_lt x x) as (λ b. cond b x x ≡ x) [ true ↦ refl | false ↦ refl ]

top_push : (before : List Packet) (p : Packet) → top_with (first_pts before) (greatest_pts before) p.pts ≡ greatest_pts (before ++ p ∷ [])
unfolding greatest_pts
top_push [] p = sym (max_same p.pts)
top_push (q ∷ ps) p = sym (fold_push of_pts q.pts (q ∷ ps) p)

closed_same : (before cutters : List Packet) (p : Packet) (n : ℕ) → (before ≡ [] → cutters ≡ [])
    → closed_from (zero_of before) n (pos 0) cutters ≡ closed_from (zero_of (before ++ p ∷ [])) n (pos 0) cutters
closed_same [] cutters p n h = let none : cutters ≡ [] = h refl in rw none refl
closed_same (q ∷ ps) cutters p n h = refl

start_same : (before cutters : List Packet) (p : Packet) → (before ≡ [] → cutters ≡ [])
    → start_from (zero_of before) (pos 0) cutters ≡ start_from (zero_of (before ++ p ∷ [])) (pos 0) cutters
start_same [] cutters p h = let none : cutters ≡ [] = h refl in rw none refl
start_same (q ∷ ps) cutters p h = refl

-- a packet was passed
pub passed : (t u : Timeline) (s : Session) (cutters before : List Packet) (p : Packet) → (before ≡ [] → cutters ≡ []) → Shows t s cutters before
    → u.entries ≡ t.entries → u.start ≡ t.start → u.zero ≡ Some (zero_with t.zero p.pts) → u.top ≡ top_with t.zero t.top p.pts → Shows u s cutters (before ++ p ∷ [])
passed t u s cutters before p first h entries start zero top = record {
  entries = ap (λ e. e.items) entries ∙ h.entries ∙ closed_same before cutters p s.first first;
  start = start ∙ h.start ∙ start_same before cutters p first;
  zero = zero ∙ ap (λ (z : Option ℤ). Some (zero_with z p.pts)) h.zero ∙ zero_push before p;
  top = top ∙ ap (λ (z : Option ℤ). top_with z t.top p.pts) h.zero ∙ ap (λ (m : ℤ). top_with (first_pts before) m p.pts) h.top ∙ top_push before p;
}

-- a file ended where a packet begins the next one
pub split_at : (t u : Timeline) (s : Session) (cutters before : List Packet) (p : Packet) (number : ℕ) → Shows t s cutters before → number ≡ raised s.first (length cutters)
    → u.entries.items ≡ t.entries.items ++ entry number t.start (since t.zero p.pts) ∷ [] → u.start ≡ since t.zero p.pts → u.zero ≡ t.zero → u.top ≡ t.top
    → Shows u s (cutters ++ p ∷ []) before
split_at t u s cutters before p number h n entries start zero top =
    let end : since t.zero p.pts ≡ p.pts -ℤ zero_of before = ap (λ (z : Option ℤ). since z p.pts) h.zero ∙ since_is before p.pts in record {
      entries =
          entries
          ∙ ap (λ (es : List ListEntry). es ++ entry number t.start (since t.zero p.pts) ∷ []) h.entries
          ∙ ap (λ (m : ℕ). closed_from (zero_of before) s.first (pos 0) cutters ++ entry m t.start (since t.zero p.pts) ∷ []) n
          ∙ ap (λ (z : ℤ). closed_from (zero_of before) s.first (pos 0) cutters ++ entry (raised s.first (length cutters)) z (since t.zero p.pts) ∷ []) h.start
          ∙ ap (λ (z : ℤ). closed_from (zero_of before) s.first (pos 0) cutters ++ entry (raised s.first (length cutters)) (start_from (zero_of before) (pos 0) cutters) z ∷ []) end
          ∙ sym (closed_push (zero_of before) s.first (pos 0) cutters p);
      start = start ∙ end ∙ sym (start_push (zero_of before) (pos 0) cutters p);
      zero = zero ∙ h.zero;
      top = top ∙ h.top;
    }

-- the last file ended
pub finished : (t : Timeline) (items : List ListEntry) (s : Session) (cutters before : List Packet) (number : ℕ) → Shows t s cutters before → number ≡ raised s.first (length cutters)
    → items ≡ t.entries.items ++ entry number t.start (since t.zero t.top) ∷ []
    → items ≡ entries_from (zero_of before) (greatest_pts before -ℤ zero_of before) s.first (pos 0) cutters
finished t items s cutters before number h n is =
    let end : since t.zero t.top ≡ greatest_pts before -ℤ zero_of before =
    ap (λ (z : Option ℤ). since z t.top) h.zero ∙ since_is before t.top ∙ ap (λ (z : ℤ). z -ℤ zero_of before) h.top in
    is
    ∙ ap (λ (es : List ListEntry). es ++ entry number t.start (since t.zero t.top) ∷ []) h.entries
    ∙ ap (λ (m : ℕ). closed_from (zero_of before) s.first (pos 0) cutters ++ entry m t.start (since t.zero t.top) ∷ []) n
    ∙ ap (λ (z : ℤ). closed_from (zero_of before) s.first (pos 0) cutters ++ entry (raised s.first (length cutters)) z (since t.zero t.top) ∷ []) h.start
    ∙ ap (λ (z : ℤ). closed_from (zero_of before) s.first (pos 0) cutters ++ entry (raised s.first (length cutters)) (start_from (zero_of before) (pos 0) cutters) z ∷ []) end
    ∙ sym (entries_are (zero_of before) (greatest_pts before -ℤ zero_of before) s.first (pos 0) cutters)

pub none_in_range : (es : List ListEntry) → es ≡ [] → All IsInRange es
none_in_range es e = let none : All IsInRange [] = λ k d h. absurd (omega (arith, h)) in subst (λ (l : List ListEntry). All IsInRange l) (sym e) none

pub more_in_range : (es new : List ListEntry) (e : ListEntry) → All IsInRange es → IsInRange e → new ≡ es ++ e ∷ [] → All IsInRange new
more_in_range es new e h k is = subst (λ (l : List ListEntry). All IsInRange l) (sym is) (All-push IsInRange es e h k)

pub never_empty : (before : List Packet) (p : Packet) → before ++ p ∷ [] ≡ [] → ⊥
never_empty [] p e = cc
never_empty (q ∷ before) p e = cc

-- room was made for more entries
pub room_made : (t u : Timeline) (s : Session) (cutters before : List Packet) → KeepsTimes t u → u.entries.items ≡ t.entries.items → Shows t s cutters before → Shows u s cutters before
room_made t u s cutters before kept entries h = record {
  entries = entries ∙ h.entries;
  start = kept.start ∙ h.start;
  zero = kept.zero ∙ h.zero;
  top = kept.top ∙ h.top;
}
