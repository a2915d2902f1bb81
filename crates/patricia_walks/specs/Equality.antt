-- Lists of entries compared.
use Rattle.std.specs.Prelude.{◌&&◌, Bool, ℕ, List, nat_eq}
use Rattle.std.specs.Cmp.Lexicographic.{pointwise}

-- `eq` says of two values whether `==` holds of them
module _ {V : Type 0} (eq : V → V → Bool) where
  -- two entries have the same key, and equal values
  abbrev pub is_same_entry : List ℕ × V → List ℕ × V → Bool
  is_same_entry e f = pointwise nat_eq e.0 f.0 && eq e.1 f.1

  -- as many entries here as there, each the same as the one in its place
  abbrev pub are_same_entries : List (List ℕ × V) → List (List ℕ × V) → Bool
  are_same_entries es fs = pointwise is_same_entry es fs
