-- A tree from which a walk removes entries where it stands.
use Rattle.std.specs.Prelude.{ℕ, List, Option}
use Rattle.std.specs.FinMap as map
use Rattle.patricia_keys.specs.Keys.{key_cmp}

-- the map as it is now, the key at whose entry the walk stands, and the entries behind it
pub record PrunerView (V : Type 0) : Type 0 where
  pub map : map.FinMap key_cmp V
  pub at : Option (List ℕ)
  pub left : List (List ℕ × V)
