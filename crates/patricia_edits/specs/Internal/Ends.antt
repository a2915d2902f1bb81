-- The first and the last key of entries.
use Rattle.std.specs.Prelude.{◌≡◌, ℕ, List, [], ◌∷◌, ◌++◌}

module _ {V : Type 0} where
  -- the key is that of the first entry
  abbrev pub IsFirstKey : List (List ℕ × V) → List ℕ → Type 0
  IsFirstKey entries key =
      (value : V) × (rest : List (List ℕ × V)) × (entries ≡ (key, value) ∷ rest)

  -- the key is that of the last entry
  abbrev pub IsLastKey : List (List ℕ × V) → List ℕ → Type 0
  IsLastKey entries key =
      (value : V) × (front : List (List ℕ × V)) × (entries ≡ front ++ (key, value) ∷ [])
