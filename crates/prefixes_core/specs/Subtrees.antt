-- Dotted names: a name and those below it.
use Rattle.std.specs.Prelude.{ℕ, Bool, not, ◌||◌, List, [], ◌∷◌, ◌++◌, filter}
use Rattle.std.specs.Str.{bytes_eq}
use Rattle.patricia_tree.specs.Prefixes.{begins}

-- the key is the name, or the name and a dot begin it: in the subtree of `log` are `log` and
-- `log.level`, but not `logs`
abbrev pub is_within : List ℕ → List ℕ → Bool
is_within name key = bytes_eq key name || begins (name ++ 46 ∷ []) key

module _ {V : Type 0} where
  -- the entry of a name and the entries below it
  abbrev pub subtree : List ℕ → List (List ℕ × V) → List (List ℕ × V)
  subtree name entries = filter (λ entry. is_within name entry.0) entries

  -- all other entries
  abbrev pub elsewhere : List ℕ → List (List ℕ × V) → List (List ℕ × V)
  elsewhere name entries = filter (λ entry. not (is_within name entry.0)) entries
