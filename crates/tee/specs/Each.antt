-- Three lists, place by place.
use Rattle.std.specs.Prelude.{ℕ, zero, suc, List, [], ◌∷◌}

module _ {A B C : Type 0} where
  abbrev pub Each3 : (A → B → C → Type 0) → List A → List B → List C → Type 0
  Each3 P [] [] [] = Unit {0}
  Each3 P (a ∷ us) (b ∷ bs) (c ∷ cs) = P a b c × Each3 P us bs cs
  Each3 P [] [] (c ∷ cs) = ⊥
  Each3 P [] (b ∷ bs) cs = ⊥
  Each3 P (a ∷ us) [] cs = ⊥
  Each3 P (a ∷ us) (b ∷ bs) [] = ⊥

  -- Q at the first k places, P at the others
  abbrev pub Between3 : (A → B → C → Type 0) → (A → B → C → Type 0) → ℕ → List A → List B → List C → Type 0
  Between3 P Q zero us bs cs = Each3 P us bs cs
  Between3 P Q (suc k) [] [] [] = Unit {0}
  Between3 P Q (suc k) (a ∷ us) (b ∷ bs) (c ∷ cs) = Q a b c × Between3 P Q k us bs cs
  Between3 P Q (suc k) [] [] (c ∷ cs) = ⊥
  Between3 P Q (suc k) [] (b ∷ bs) cs = ⊥
  Between3 P Q (suc k) (a ∷ us) [] cs = ⊥
  Between3 P Q (suc k) (a ∷ us) (b ∷ bs) [] = ⊥
