-- A list names the files of its session.
use Rattle.std.proofs.Common.{◌≡◌, ◌+◌, ℕ, zero, suc, arith, Bool, true, false, if◌then◌else◌, List, [], ◌∷◌, ◌++◌, length, refl, ap, ◌∙◌, sym, append-nil, append_assoc, length-append, ℤ, pos, ◌-ℤ◌}
use Rattle.std.specs.Prelude.{map}
use Rattle.playlist.specs.declared.list.ListEntry.{ListEntry}
use Rattle.rmx_edge.specs.Count.{raised}
use Rattle.rmx_media.specs.declared.packet.Packet.{Packet}
use Rattle.segmenter.specs.Entries.{entries, entries_from, zero_of, greatest_pts}
use Rattle.segmenter.specs.Laws.{numbers_from, ListsNameFiles}
use Rattle.segmenter.specs.Session.{Plan, cuts_in, cutting, stretches, stretches_from}
use Rattle.segmenter.proofs.PutLemmas.{cutting_cut, cutting_stay}
use Rattle.segmenter.proofs.SessionLemmas.{cutting_none}

-- so many numbers, from this one on
abbrev run : ℕ → ℕ → List ℕ
run zero number = []
run (suc count) number = number ∷ run count (raised number 1)

runs_by : (xs : List (List Packet)) (number : ℕ) → numbers_from number xs ≡ run (length xs) number
runs_by [] number = refl
runs_by (x ∷ xs) number = ap (λ (l : List ℕ). number ∷ l) (runs_by xs (raised number 1))

entry_runs : (zero_pts end : ℤ) (number : ℕ) (start : ℤ) (ps : List Packet) → map (λ (e : ListEntry). e.number) (entries_from zero_pts end number start ps) ≡ run (suc (length ps)) number
entry_runs zero_pts end number start [] = refl
entry_runs zero_pts end number start (p ∷ ps) = ap (λ (l : List ℕ). number ∷ l) (entry_runs zero_pts end (raised number 1) (p.pts -ℤ zero_pts) ps)

-- one stretch more than there are cuts
counted_by : (plan : Plan) (before opened : List Packet) (p : Packet) (rest : List Packet) (b : Bool) → cuts_in plan before p ≡ b
    → ((open_ones : List Packet) → length (stretches_from plan (before ++ p ∷ []) open_ones rest) + length (cutting plan (before ++ p ∷ [])) ≡ suc (length (cutting plan ((before ++ p ∷ []) ++ rest))))
    → length (stretches_from plan before opened (p ∷ rest)) + length (cutting plan before) ≡ suc (length (cutting plan (before ++ p ∷ rest)))
counted_by plan before opened p rest true e more =
    let cut : length (cutting plan (before ++ p ∷ [])) ≡ length (cutting plan before) + 1 = ap (λ (l : List Packet). length l) (cutting_cut plan before p e) ∙ length-append (cutting plan before) (p ∷ []) in
    let split : length (stretches_from plan before opened (p ∷ rest)) ≡ suc (length (stretches_from plan (before ++ p ∷ []) (p ∷ []) rest)) =
    ap (λ (b : Bool). length (if b then opened ∷ stretches_from plan (before ++ p ∷ []) (p ∷ []) rest else stretches_from plan (before ++ p ∷ []) (opened ++ p ∷ []) rest)) e in
    let all : length (cutting plan ((before ++ p ∷ []) ++ rest)) ≡ length (cutting plan (before ++ p ∷ rest)) = ap (λ (ps : List Packet). length (cutting plan ps)) (append_assoc before (p ∷ []) rest) in
    let ih = more (p ∷ []) in
    omega arith
counted_by plan before opened p rest false e more =
    let stay : length (cutting plan (before ++ p ∷ [])) ≡ length (cutting plan before) = ap (λ (l : List Packet). length l) (cutting_stay plan before p e) in
    let split : length (stretches_from plan before opened (p ∷ rest)) ≡ length (stretches_from plan (before ++ p ∷ []) (opened ++ p ∷ []) rest) =
    ap (λ (b : Bool). length (if b then opened ∷ stretches_from plan (before ++ p ∷ []) (p ∷ []) rest else stretches_from plan (before ++ p ∷ []) (opened ++ p ∷ []) rest)) e in
    let all : length (cutting plan ((before ++ p ∷ []) ++ rest)) ≡ length (cutting plan (before ++ p ∷ rest)) = ap (λ (ps : List Packet). length (cutting plan ps)) (append_assoc before (p ∷ []) rest) in
    let ih = more (opened ++ p ∷ []) in
    omega arith

counted : (plan : Plan) (rest before opened : List Packet) → length (stretches_from plan before opened rest) + length (cutting plan before) ≡ suc (length (cutting plan (before ++ rest)))
counted plan [] before opened =
    let same : length (cutting plan before) ≡ length (cutting plan (before ++ [])) = ap (λ (ps : List Packet). length (cutting plan ps)) (sym (append-nil before)) in omega arith
counted plan (p ∷ rest) before opened = counted_by plan before opened p rest (cuts_in plan before p) refl (λ open_ones. counted plan rest (before ++ p ∷ []) open_ones)

pub lists_name_files : ListsNameFiles
unfolding entries
lists_name_files s packets =
    let plan : Plan = s.plan in
    let none : length (cutting plan []) ≡ 0 = ap (λ (l : List Packet). length l) (cutting_none plan) in
    let count : suc (length (cutting plan packets)) ≡ length (stretches plan packets) = let h = counted plan packets [] [] in omega arith in
    entry_runs (zero_of packets) (greatest_pts packets -ℤ zero_of packets) s.first (pos 0) (cutting plan packets)
    ∙ ap (λ (n : ℕ). run n s.first) count
    ∙ sym (runs_by (stretches plan packets) s.first)
