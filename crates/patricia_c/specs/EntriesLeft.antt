-- The entries that an iterator in a place of C has left.
use Rattle.std.specs.Prelude.{◌≡◌, ◌≢◌, ◌⊎◌, ◌∷◌, ℕ, List, [], length, Option, None, Some, Vec}
use Rattle.std.specs.Global.{Global}
use Rattle.patricia_c.specs.declared.entries_pointer.EntriesLeft.{EntriesLeft}

-- the bytes of each key, with its value
abbrev pub pairs_of : List (Vec ℕ Global × ℕ) → List (List ℕ × ℕ)
pairs_of [] = []
pairs_of (entry ∷ entries) = (entry.0.items, entry.1) ∷ pairs_of entries

-- nothing on the heap stands for an iterator at its end
abbrev pub entries_of : Option EntriesLeft → List (List ℕ × ℕ)
entries_of None = []
entries_of (Some entries) = pairs_of entries.left.items

-- the first entry is this key, with this value, before the rest
abbrev pub TakesEntry : List (List ℕ × ℕ) → List ℕ → ℕ → List (List ℕ × ℕ) → Type 0
TakesEntry entries key value rest = entries ≡ (key, value) ∷ rest

-- there is a first entry, whose key has this length
abbrev pub IsFirstLen : List (List ℕ × ℕ) → ℕ → Type 0
IsFirstLen [] n = ⊥
IsFirstLen (entry ∷ _) n = length entry.0 ≡ n

-- with code 0 an iterator has entries left of which `Are` holds; code 2, where there are entries at
-- all, says that memory ran out, and then it has none left
pub record Iterates (Are : List (List ℕ × ℕ) → Type 0) (all : List (List ℕ × ℕ)) (code : ℕ)
    (left : List (List ℕ × ℕ)) : Type 0 where
  pub are : code ≡ 0 → Are left
  pub refused : code ≡ 2 → left ≡ []
  pub refused_nonempty : code ≡ 2 → all ≢ []
  pub codes : (code ≡ 0) ⊎ (code ≡ 2)
