-- Nodes that lend a value, and what a write through the loan leaves.
use Rattle.std.specs.Prelude.{◌≡◌, ℕ, ◌<◌, List, Option, Some, slice_get, length}
use Rattle.std.specs.Borrow.{LendsIf, Fml, RattleType, MutBor}
use Rattle.std.specs.FinMap.{find}
use Rattle.patricia_nodes.specs.declared.arena.NodeArena.{NodeArena}
use Rattle.patricia_nodes.specs.contracts.arena.NodeArena.{the_row}
use Rattle.patricia_nodes.specs.Internal.NodeVecs.{value_in, with_valued}
use Rattle.patricia_nodes.specs.Internal.Plans.{entries_of}
use Rattle.patricia_keys.specs.Keys.{key_cmp}
use Rattle.patricia_nodes.specs.Internal.Writes.{Puts}

module _ {V : Type 0} where
  -- the value of the node with this number
  abbrev pub value_of : NodeArena V → ℕ → Option V
  value_of s id = value_in (slice_get s.nodes.items id)

  -- s with w for the value of the node with this number
  abbrev pub with_value : NodeArena V → ℕ → V → NodeArena V
  with_value s id w = record s { nodes = with_valued s.nodes id w (slice_get s.nodes.items id) }

-- s ends with the value of a node as the loan leaves it
abbrev pub lends_value : (V : RattleType) → MutBor (NodeArena V.Denot) → ℕ → Option (MutBor V.Denot)
    → Fml
lends_value V s id r = LendsIf (the_row V) V s r (with_value s.now id) s.now

-- the number is that of the node that has the value of the key, and a write there puts a value in
-- at the key
pub record HasValueNode (item : List ℕ → Type 0) {V : Type 0} (s : NodeArena V) (key : List ℕ)
    (id : ℕ) : Type 0 where
  pub within : id < length s.nodes.items
  pub value : V
  pub is_value : value_of s id ≡ Some value
  pub found : find key_cmp key (entries_of s) ≡ Some value
  pub writes : (w : V) → Puts item s (with_value s id w) key w
