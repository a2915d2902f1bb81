-- What calls on a vector of nodes read, write and lend.
use Rattle.std.specs.Prelude.{◌≡◌, ℕ, ◌+◌, ◌<◌, ◌≤◌, Option, Some, None, slice_get, slice_set}
use Rattle.std.specs.Prelude.{slice_index_or, ◌++◌, take, drop, length}
use Rattle.patricia_store.specs.Internal.Labels.{joined_room}
use Rattle.std.specs.Borrow.{LendsIf, Fml, RattleType, MutBor}
use Rattle.patricia_store.specs.Internal.Heads.{byte_of}
use Rattle.patricia_store.specs.Internal.Nodes.{Node, Nodes, linked}
use Rattle.patricia_nodes.specs.declared.arena.node_vec.NodeVec.{NodeVec}
use Rattle.patricia_nodes.specs.contracts.arena.node_vec.NodeVec.{the_row}

module _ {V : Type 0} where
  -- this is so of the node with the number
  abbrev pub ReadsNode : Nodes V → ℕ → (Node V → Type 0) → Type 0
  ReadsNode nodes id is = (n : Node V) → n ≡ slice_index_or nodes.items id n → is n

  -- from one number up to another each node has the next one for its sibling, and a first byte
  -- that is less than this one
  pub record IsRun (nodes : Nodes V) (b from to : ℕ) : Type 0 where
    pub forward : from ≤ to
    pub passes : (i : ℕ) → from ≤ i → i < to
        → ReadsNode nodes i (λ n. (n.sibling ≡ Some (i + 1)) × (byte_of n.label < b))

  -- the node with the number is changed so
  abbrev pub Changes : Nodes V → Nodes V → ℕ → (Node V → Node V) → Type 0
  Changes old new id changed =
      (n : Node V) × (n ≡ slice_index_or old.items id n)
      × (new.items ≡ slice_set old.items id (changed n))

  -- and this was its value
  abbrev pub Trades : Nodes V → Nodes V → ℕ → (Node V → Node V) → Option V → Type 0
  Trades old new id changed taken =
      (n : Node V) × (n ≡ slice_index_or old.items id n)
      × (new.items ≡ slice_set old.items id (changed n)) × (taken ≡ n.value)

  -- the value of a node, where there is one
  abbrev pub value_in : Option (Node V) → Option V
  value_in None = None
  value_in (Some n) = n.value

  -- the nodes with this one at its number, and with w for its value
  abbrev pub with_valued : Nodes V → ℕ → V → Option (Node V) → Nodes V
  with_valued nodes id w None = nodes
  with_valued nodes id w (Some n) =
      record nodes { items = slice_set nodes.items id (record n { value = Some w }) }

  -- a node keeps the first n bytes of its label, and has another value and a new first child. That
  -- has the rest of the label, and the value and the first child that the node had, and this was
  -- its value
  abbrev pub Splits : Nodes V → Nodes V → ℕ → ℕ → ℕ → Option V → Option V → Type 0
  Splits old new id n tail value taken =
      (a b : Node V) × (a ≡ slice_index_or old.items id a) × (b ≡ slice_index_or old.items tail b)
      × (new.items ≡ slice_set
      (slice_set old.items id (linked (take n a.label) value (Some tail) a.sibling))
      tail (linked (drop n a.label) a.value a.child b.sibling))
      × (taken ≡ b.value)

  -- a node has the label of another behind its own, and another first child and value, and this
  -- was its value
  abbrev pub Joins : Nodes V → Nodes V → ℕ → ℕ → Option ℕ → Option V → Option V → Type 0
  Joins old new upper lower child value taken =
      (a b : Node V) × (a ≡ slice_index_or old.items upper a)
      × (b ≡ slice_index_or old.items lower b)
      × (new.items ≡ slice_set old.items upper
      (linked (a.label ++ b.label) value child a.sibling))
      × (taken ≡ a.value)

  -- there is room, of so many bytes, for the labels of two nodes as one
  abbrev pub HasJoinedRoom : Nodes V → ℕ → ℕ → ℕ → Type 0
  HasJoinedRoom nodes room upper lower =
      ReadsNode nodes upper (λ a. ReadsNode nodes lower
      (λ b. joined_room (length a.label) (length b.label) ≤ room))

-- the nodes end with the value of one as the loan leaves it
abbrev pub lends_value_at : (V : RattleType) → MutBor (NodeVec V.Denot) → ℕ
    → Option (MutBor V.Denot) → Fml
lends_value_at V s id r =
    LendsIf (the_row V) V s r (λ w. with_valued s.now id w (slice_get s.now.items id)) s.now
