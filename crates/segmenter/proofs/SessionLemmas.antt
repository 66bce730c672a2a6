-- One packet more in a session.
use Rattle.std.proofs.Common.{◌≡◌, Bool, true, false, if◌then◌else◌, List, [], ◌∷◌, ◌++◌, refl, ap, ◌∙◌, append-nil}
use Rattle.std.specs.Prelude.{reverse, map}
use Rattle.std.proofs.lemmas.List.{reverse-append}
use Rattle.rmx_media.specs.declared.packet.Packet.{Packet}
use Rattle.segmenter.specs.Cuts.{cuts}
use Rattle.segmenter.specs.Session.{Plan, rule_of, mark_of, cuts_behind, cuts_in, cutting, cutting_behind, last_stretch, last_behind}

pub reverse_push : {A : Type 0} (xs : List A) (x : A) → reverse (xs ++ x ∷ []) ≡ x ∷ reverse xs
reverse_push xs x = reverse-append xs (x ∷ [])

reverse_front : {A : Type 0} (x : A) (xs : List A) → reverse (x ∷ xs) ≡ reverse xs ++ x ∷ []
reverse_front x xs = reverse-append (x ∷ []) xs

reverse_if : {A : Type 0} (c : Bool) (xs : List A) → reverse (if c then [] else xs) ≡ (if c then [] else reverse xs)
reverse_if true xs = refl
reverse_if false xs = refl

reverse_with : {A : Type 0} (c : Bool) (x : A) (xs : List A) → reverse ((if c then x ∷ [] else []) ++ xs) ≡ reverse xs ++ (if c then x ∷ [] else [])
reverse_with true x xs = reverse_front x xs
reverse_with {A} false x xs = let e : reverse xs ++ [] ≡ reverse xs = append-nil (reverse xs) in rw e refl

pub last_stretch_push : (plan : Plan) (before : List Packet) (p : Packet)
    → last_stretch plan (before ++ p ∷ []) ≡ (if cuts_in plan before p then [] else last_stretch plan before) ++ p ∷ []
unfolding last_stretch cuts_in
last_stretch_push plan before p =
    let c : Bool = cuts_behind plan (reverse before) p in
    let l : List Packet = last_behind plan (reverse before) in
    ap (λ (ps : List Packet). reverse (last_behind plan ps)) (reverse_push before p)
    ∙ reverse_front p (if c then [] else l)
    ∙ ap (λ (ps : List Packet). ps ++ p ∷ []) (reverse_if c l)

pub cutting_push : (plan : Plan) (before : List Packet) (p : Packet)
    → cutting plan (before ++ p ∷ []) ≡ cutting plan before ++ (if cuts_in plan before p then p ∷ [] else [])
unfolding cutting cuts_in
cutting_push plan before p =
    ap (λ (ps : List Packet). reverse (cutting_behind plan ps)) (reverse_push before p)
    ∙ reverse_with (cuts_behind plan (reverse before) p) p (cutting_behind plan (reverse before))

pub last_stretch_none : (plan : Plan) → last_stretch plan [] ≡ []
unfolding last_stretch
last_stretch_none plan = refl

pub cutting_none : (plan : Plan) → cutting plan [] ≡ []
unfolding cutting
cutting_none plan = refl

-- the first packet of a session doesn't cut
pub first_stays : (plan : Plan) (p : Packet) → cuts_in plan [] p ≡ false
unfolding cuts_in
first_stays plan p = refl

pub marks_push : (plan : Plan) (before : List Packet) (p : Packet) → map (mark_of plan) (reverse (before ++ p ∷ [])) ≡ mark_of plan p ∷ map (mark_of plan) (reverse before)
marks_push plan before p = ap (map (mark_of plan)) (reverse_push before p)

pub cuts_are : (plan : Plan) (before : List Packet) (p : Packet) → cuts (rule_of plan) (map (mark_of plan) (reverse before)) (mark_of plan p) ≡ cuts_in plan before p
unfolding cuts_in
cuts_are plan before p = refl
