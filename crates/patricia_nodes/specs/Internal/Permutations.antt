-- Lists of numbers that say in which order nodes are to lie.
use Rattle.std.specs.Prelude.{◌≡◌, ℕ, List, length}
pub use Rattle.patricia_store.specs.Internal.Permutations.{AreInverse}
use Rattle.patricia_nodes.specs.Internal.Plans.{times, below}

-- each number below the length stands in the list once
abbrev pub IsOrder : List ℕ → Type 0
IsOrder order = (at : ℕ) → times order at ≡ below (length order) at
