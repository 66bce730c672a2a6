-- Cells: one of them, and the cells of the bytes that are left.
use Rattle.std.proofs.Common.{◌≡◌, ℕ, zero, suc, ◌+◌, ◌-◌, ◌/◌, ◌<◌, ◌≤◌, true, false, List, [], ◌∷◌, ◌++◌, length, take, drop, min, sym, ap, ◌∙◌, arith, append_assoc, length-append, append-nil}
use Rattle.std.proofs.lemmas.List.{length-replicate, take_at, length-take, length-drop, drop-drop, take_min}
use Rattle.std.proofs.Math.ListN.{drop_of_length-le}
use Rattle.std.proofs.Math.Seq.{take-append-add, drop-append-add}
use native.Mathlib.Numerals.{unary_clauses}
use borrow.Rule.Slice.PartMut.{put_mid}
use Rattle.ts_psi.specs.Cell.{stuffing}
use Rattle.ts_psi.proofs.Fill.{put_on}
use Rattle.ts_mux.specs.Cells.{cell, next, no_flags, cells_by, more_cells, cells_of}

length_stuffing : (n : ℕ) → length (stuffing n) ≡ n
unfolding stuffing
length_stuffing n = length-replicate n 255

-- the bytes put into the place of the stuffing at the end
cell_made : (f out made body : List ℕ) (n at : ℕ) → at ≡ 188 - n → made ≡ f ++ stuffing n → length made ≡ 188 → n ≤ 184 → out ≡ body
    → put_mid at (188 - at) made out ≡ f ++ body
cell_made f out made body n at where_at m l h o =
    let whole : length f + n ≡ 188 = ap (λ k. length f + k) (sym (length_stuffing n)) ∙ sym (length-append f (stuffing n)) ∙ sym (ap length m) ∙ l in
    let size : length f ≡ 188 - n = omega arith in
    let none : length made ≤ 188 - n + (188 - (188 - n)) = omega arith in
    ap (λ k. put_mid k (188 - k) made out) where_at
    ∙ ap (λ x. x ++ (out ++ drop (188 - (188 - n)) (drop (188 - n) made))) (ap (take (188 - n)) m ∙ take_at f (stuffing n) (188 - n) size)
    ∙ ap (λ x. f ++ (out ++ x)) (drop-drop (188 - (188 - n)) (188 - n) made ∙ drop_of_length-le made none)
    ∙ ap (λ x. f ++ x) (append-nil out ∙ o)

-- a cell with a place for so many bytes, in front of which the head was put
pub record IsHeaded (f head made : List ℕ) (n : ℕ) : Type 0 where
  pub size : length made ≡ 188
  pub made_of : made ≡ (f ++ head) ++ stuffing (n - length head)

pub headed : (f head front made : List ℕ) (n : ℕ) → front ≡ f ++ stuffing n → length front ≡ 188 → n ≤ 184 → length head ≤ n
    → made ≡ take (188 - n) front ++ (head ++ drop (188 - n + length head) front) → IsHeaded f head made n
headed f head front made n e l h k m =
    let whole : length f + n ≡ 188 = ap (λ k. length f + k) (sym (length_stuffing n)) ∙ sym (length-append f (stuffing n)) ∙ sym (ap length e) ∙ l in
    let at : 188 - n ≡ length f = omega arith in
    let is : made ≡ (f ++ head) ++ stuffing (n - length head) = m ∙ put_on f head front n (188 - n) at e k in
    let parts : length made ≡ length f + length head + (n - length head) =
    ap length is ∙ length-append (f ++ head) (stuffing (n - length head)) ∙ ap (λ j. j + length (stuffing (n - length head))) (length-append f head)
    ∙ ap (λ j. length f + length head + j) (length_stuffing (n - length head)) in
    record { size = omega arith; made_of = is }

-- how many bytes the place behind the head takes
pub place_is : (made : List ℕ) (n h : ℕ) → length made ≡ 188 → n ≤ 184 → h ≤ n → length (take (188 - (188 - n + h)) (drop (188 - n + h) made)) ≡ n - h
place_is made n h l k e = omega (arith, length-take (188 - (188 - n + h)) (drop (188 - n + h) made), length-drop (188 - n + h) made)

take_past : (n : ℕ) (head bytes : List ℕ) → length head ≤ n → take n (head ++ bytes) ≡ head ++ take (n - length head) bytes
take_past n head bytes h =
    let e : n ≡ length head + (n - length head) = omega arith in
    ap (λ k. take k (head ++ bytes)) e ∙ take-append-add head bytes (n - length head)

pub drop_past : (n : ℕ) (head bytes : List ℕ) → length head ≤ n → drop (n - length head) bytes ≡ drop n (head ++ bytes)
drop_past n head bytes h =
    let e : n ≡ length head + (n - length head) = omega arith in
    sym (ap (λ k. drop k (head ++ bytes)) e ∙ drop-append-add head bytes (n - length head))

-- the whole cell, where the bytes came behind the head
pub cell_filled : (f head made out bytes : List ℕ) (n : ℕ) → IsHeaded f head made n → n ≤ 184 → length head ≤ n → out ≡ take (n - length head) bytes
    → put_mid (188 - n + length head) (188 - (188 - n + length head)) made out ≡ f ++ take n (head ++ bytes)
cell_filled f head made out bytes n m h k o =
    let at : 188 - n + length head ≡ 188 - (n - length head) = omega arith in
    let few : n - length head ≤ 184 = omega arith in
    cell_made (f ++ head) out made (take (n - length head) bytes) (n - length head) (188 - n + length head) at m.made_of m.size few o
    ∙ append_assoc f head (take (n - length head) bytes)
    ∙ ap (λ x. f ++ x) (sym (take_past n head bytes k))

drop_min : (n : ℕ) (xs : List ℕ) → drop (min n (length xs)) xs ≡ drop n xs
drop_min zero xs = simp unary_clauses
drop_min (suc n) [] = simp unary_clauses
drop_min (suc n) (x ∷ xs) = simp unary_clauses (drop_min n xs)

pub more_none : (pid counter : ℕ) (bytes : List ℕ) → length bytes ≡ 0 → more_cells pid counter bytes ≡ []
unfolding more_cells
more_none pid counter bytes e = ap (λ n. cells_by ((n + 183) / 184) pid counter bytes) e

pub more_step : (pid counter n : ℕ) (bytes : List ℕ) → 0 < length bytes → n ≡ min (length bytes) 184
    → more_cells pid counter bytes ≡ cell pid false counter no_flags (take n bytes) ∷ more_cells pid (next counter) (drop n bytes)
unfolding more_cells
more_step pid counter n bytes h e =
    let count : (length bytes + 183) / 184 ≡ suc ((length (drop n bytes) + 183) / 184) = omega (arith, length-drop n bytes) in
    let turn : n ≡ min 184 (length bytes) = omega arith in
    ap (λ k. cells_by k pid counter bytes) count
    ∙ ap (λ x. cell pid false counter no_flags x ∷ cells_by ((length (drop n bytes) + 183) / 184) pid (next counter) (drop 184 bytes))
    (sym (ap (λ k. take k bytes) turn ∙ take_min 184 bytes))
    ∙ ap (λ x. cell pid false counter no_flags (take n bytes) ∷ cells_by ((length (drop n bytes) + 183) / 184) pid (next counter) x)
    (sym (ap (λ k. drop k bytes) turn ∙ drop_min 184 bytes))

pub first_step : (pid counter room n size : ℕ) (flags bytes rest made : List ℕ) → length bytes ≡ size → n ≡ min size room
    → made ≡ cell pid true counter flags (take n bytes) → rest ≡ drop n bytes
    → cells_of pid counter flags room bytes ≡ made ∷ more_cells pid (next counter) rest
unfolding cells_of
first_step pid counter room n size flags bytes rest made l e m r =
    let turn : n ≡ min room (length bytes) = omega arith in
    ap (λ x. cell pid true counter flags x ∷ more_cells pid (next counter) (drop room bytes)) (sym (ap (λ k. take k bytes) turn ∙ take_min room bytes))
    ∙ ap (λ x. cell pid true counter flags (take n bytes) ∷ more_cells pid (next counter) x) (sym (ap (λ k. drop k bytes) turn ∙ drop_min room bytes))
    ∙ ap (λ x. x ∷ more_cells pid (next counter) (drop n bytes)) (sym m)
    ∙ ap (λ x. made ∷ more_cells pid (next counter) x) (sym r)
