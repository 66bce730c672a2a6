-- The calls that write a list, as a beginning, the calls of each segment, and an end.
use Rattle.std.proofs.Common.{◌≡◌, ◌<◌, ◌≤◌, ℕ, zero, suc, List, [], ◌∷◌, ◌++◌, map, length, take, get_or, refl, sym, ◌∙◌, ap, subst, arith, append_assoc, Result, Ok, Err}
use Rattle.std.specs.Prelude.{flat_map, All}
use Rattle.std.proofs.lemmas.List.{map-append}
use Rattle.rmx_edge.specs.declared.shelf.ShelfFault.{ShelfFault}
use Rattle.rmx_edge.specs.Shelf.{ShelfCall, ShelfState, Create, Write, Close}
use Rattle.rmx_edge.specs.Run.{Runs}
use Rattle.rmx_edge.proofs.Run.{runs_stopped}
use Rattle.rmx_edge.proofs.FileRuns.{file_stopped, file_end}
use Rattle.playlist.specs.declared.list.ListKind.{ListKind}
use Rattle.playlist.specs.declared.list.ListEntry.{ListEntry}
use Rattle.playlist.specs.Template.{TemplateParts}
use Rattle.playlist.specs.List.{IsInRange, head_lines, entry_lines, tail_lines, head_calls, entry_calls, tail_calls, list_calls}

mapped : (kind : ListKind) (t : TemplateParts) (entries : List ListEntry) → map Write (flat_map (entry_lines kind t) entries) ≡ flat_map (entry_calls kind t) entries
mapped kind t [] = refl
mapped kind t (e ∷ es) = map-append Write (entry_lines kind t e) (flat_map (entry_lines kind t) es) ∙ ap (λ (l : List ShelfCall). entry_calls kind t e ++ l) (mapped kind t es)

pub in_parts : (kind : ListKind) (name : List ℕ) (t : TemplateParts) (entries : List ListEntry) → head_calls kind name entries ++ (flat_map (entry_calls kind t) entries ++ tail_calls kind) ≡ list_calls kind name t entries
unfolding list_calls
in_parts kind name t entries =
    let heads = map Write (head_lines kind entries) in
    let segments = flat_map (entry_lines kind t) entries in
    let tails = map Write (tail_lines kind) in
    ap (λ (l : List ShelfCall). Create name ∷ l) (sym (
    ap (λ (l : List ShelfCall). l ++ Close ∷ []) (map-append Write (head_lines kind entries) (segments ++ tail_lines kind)
    ∙ ap (λ (l : List ShelfCall). heads ++ l) (map-append Write segments (tail_lines kind) ∙ ap (λ (l : List ShelfCall). l ++ tails) (mapped kind t entries)))
    ∙ append_assoc heads (flat_map (entry_calls kind t) entries ++ tails) (Close ∷ [])
    ∙ ap (λ (l : List ShelfCall). heads ++ l) (append_assoc (flat_map (entry_calls kind t) entries) tails (Close ∷ []))))

-- the beginning was refused
pub not_begun : {T : Type 0} {e : ShelfFault} (kind : ListKind) (name : List ℕ) (t : TemplateParts) (entries : List ListEntry) {a b : ShelfState} → Runs {T = T} (head_calls kind name entries) (Err e) a b → Runs {T = T} (list_calls kind name t entries) (Err e) a b
not_begun {T} {e} kind name t entries {a} {b} p =
    subst (λ (l : List ShelfCall). Runs {T = T} l (Err e) a b) (in_parts kind name t entries) (runs_stopped (flat_map (entry_calls kind t) entries ++ tail_calls kind) p)

-- a segment was refused
pub stopped_at : {T : Type 0} {v : T} {e : ShelfFault} (kind : ListKind) (name : List ℕ) (t : TemplateParts) (entries : List ListEntry) (i : ℕ) (x : ListEntry) {a b c : ShelfState} → i < length entries → x ≡ get_or entries i x → Runs (head_calls kind name entries ++ flat_map (entry_calls kind t) (take i entries)) (Ok v) a b → Runs {T = T} (entry_calls kind t x) (Err e) b c → Runs {T = T} (list_calls kind name t entries) (Err e) a c
stopped_at {T} {v} {e} kind name t entries i x {a} {b} {c} h is p q =
    subst (λ (l : List ShelfCall). Runs {T = T} l (Err e) a c) (in_parts kind name t entries)
    (file_stopped (head_calls kind name entries) (tail_calls kind) (entry_calls kind t) entries i x h is p q)

-- all segments were written, and the end answers
pub ended : {T : Type 0} {v : T} {r : Result T ShelfFault} (kind : ListKind) (name : List ℕ) (t : TemplateParts) (entries : List ListEntry) (i : ℕ) {a b c : ShelfState} → length entries ≤ i → Runs (head_calls kind name entries ++ flat_map (entry_calls kind t) (take i entries)) (Ok v) a b → Runs (tail_calls kind) r b c → Runs (list_calls kind name t entries) r a c
ended {T} {v} {r} kind name t entries i {a} {b} {c} h p q =
    subst (λ (l : List ShelfCall). Runs l r a c) (in_parts kind name t entries)
    (file_end (head_calls kind name entries) (tail_calls kind) (entry_calls kind t) entries i h p q)

-- an element is the same, whatever would stand in for it
pub same_item : (entries : List ListEntry) (i : ℕ) (d e : ListEntry) → i < length entries → get_or entries i d ≡ get_or entries i e
same_item [] i d e h = absurd (omega arith)
same_item (x ∷ xs) zero d e h = refl
same_item (x ∷ xs) (suc i) d e h = same_item xs i d e (omega arith)

pub none_in_range : All IsInRange []
none_in_range k d h = absurd (omega arith)

pub one_more_in_range : (e : ListEntry) (es : List ListEntry) → IsInRange e → All IsInRange es → All IsInRange (e ∷ es)
one_more_in_range e es p q zero d h = p
one_more_in_range e es p q (suc k) d h = q k d (omega arith)
