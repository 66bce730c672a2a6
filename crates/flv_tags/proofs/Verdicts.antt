-- A text with a fault at its head has no tags.
use Rattle.std.proofs.Common.{◌≡◌, ℕ, ◌⊎◌, inl, inr, Bool, true, false, List, [], length, drop, zero, suc, ap, ◌∙◌, sym, refl, Option, Some, None, nat_lt}
use Rattle.std.specs.Prelude.{if◌then◌else◌}
use Rattle.flv_tags.specs.declared.tag.TagFault.{TagFault}
use Rattle.flv_tags.specs.declared.tag.TagFault.TheVariants.{NotFlv, BadOffset, CutTag}
use Rattle.flv_tags.specs.Front.{Front, Nothing, Part, One, front_of}
use Rattle.flv_tags.specs.Tags.{Reading, only, reading_by, walk, reading_of_tags, reading_past, reading_of, is_flv, offset_of}

-- behind the head a text is whole or cut
IsPast : Option TagFault → Type 0
IsPast v = (v ≡ None) ⊎ (v ≡ Some CutTag)

by_front : (f : Front) (later : List ℕ → Reading) → ((text : List ℕ) → IsPast (later text).verdict) → IsPast (reading_by f later).verdict
unfolding IsPast
by_front Nothing later h = inl refl
by_front Part later h = inr refl
by_front (One tag rest) later h = h rest

past_walk : (n : ℕ) (text : List ℕ) → IsPast (walk n text).verdict
unfolding IsPast
past_walk zero text = inr refl
past_walk (suc n) text = by_front (front_of text) (walk n) (past_walk n)

past_tags : (text : List ℕ) → IsPast (reading_of_tags text).verdict
unfolding reading_of_tags
past_tags text = past_walk (suc (length text)) text

past_head : (b : Bool) (r : Reading) → IsPast r.verdict → IsPast (if b then only (Some CutTag) else r).verdict
unfolding IsPast
past_head true r h = inr refl
past_head false r h = h

not_past : {X : Type 0} (f : TagFault) (v : Option TagFault) → (f ≡ NotFlv) ⊎ (f ≡ BadOffset) → v ≡ Some f → IsPast v → X
unfolding IsPast
not_past f v h e (inl n) = absurd (none f (sym n ∙ e))
  where
    none : (f : TagFault) → None ≡ Some f → ⊥
    none f e = cc
not_past f v (inl h) e (inr c) = absurd (cut (sym c ∙ e ∙ ap Some h))
  where
    cut : Some CutTag ≡ Some NotFlv → ⊥
    cut e = cc
not_past f v (inr h) e (inr c) = absurd (cut (sym c ∙ e ∙ ap Some h))
  where
    cut : Some CutTag ≡ Some BadOffset → ⊥
    cut e = cc

by_tests : (f : TagFault) (a b : Bool) (r : Reading) → (f ≡ NotFlv) ⊎ (f ≡ BadOffset) → IsPast r.verdict → (if a then (if b then only (Some BadOffset) else r) else only (Some NotFlv)).verdict ≡ Some f → (if a then (if b then only (Some BadOffset) else r) else only (Some NotFlv)).tags ≡ []
by_tests f true true r h p e = refl
by_tests f true false r h p e = not_past f r.verdict h e p
by_tests f false b r h p e = refl

pub no_tags : (f : TagFault) (text : List ℕ) → (f ≡ NotFlv) ⊎ (f ≡ BadOffset) → (reading_of text).verdict ≡ Some f → (reading_of text).tags ≡ []
no_tags f text h e =
    by_tests f (is_flv text) (nat_lt (offset_of text) 9) (reading_past (offset_of text) text) h
    (past_head (nat_lt (length text) (offset_of text)) (reading_of_tags (drop (offset_of text) text)) (past_tags (drop (offset_of text) text))) e
