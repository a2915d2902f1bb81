-- The entries of a list of which something holds.
use Rattle.std.specs.Prelude.{◌≡◌, ◌⊎◌, List, [], ◌∷◌}

module _ {A : Type 0} where
  -- the elements of which it holds, in their order, and no others
  abbrev pub Picks : (A → Type 0) → List A → List A → Type 0
  Picks P [] picked = picked ≡ []
  Picks P (x ∷ xs) picked =
      (P x × ((later : List A) × (picked ≡ x ∷ later) × Picks P xs later))
      ⊎ ((P x → ⊥) × Picks P xs picked)
