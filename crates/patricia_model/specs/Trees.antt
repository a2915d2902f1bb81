-- The finite map that a tree stands for.
use Rattle.std.specs.Prelude.{◌≡◌, ℕ, ◌<◌, ◌^◌, ◌-◌, List, ◌++◌, Option, length}
use Rattle.std.specs.FinMap.{FinMap, from_sorted}
use Rattle.patricia_keys.specs.Keys.{key_cmp}
use Rattle.patricia_model.specs.Siblings.{Siblings, own, entries, IsCanonical}

-- the value of the empty key, and the entries of the siblings
abbrev pub map_of : {V : Type 0} → Option V → Siblings V → FinMap key_cmp V
map_of value siblings = from_sorted (own value ++ entries siblings)

-- the siblings keep the invariant, and their entries are counted
pub record IsTree {V : Type 0} (item : List ℕ → Type 0) (siblings : Siblings V) (count : ℕ)
    : Type 0 where
  pub canonical : IsCanonical item siblings
  pub counted : count ≡ length (entries siblings)
  pub fits : count < 2 ^ 64 - 1
