-- Nodes of a tree, and what calls on a vector of them read and write.
use Rattle.std.specs.Prelude.{◌≡◌, ℕ, ◌+◌, ◌<◌, ◌≤◌, List, Option, Some, None, slice_get, slice_set}
use Rattle.std.specs.Prelude.{◌++◌, take, drop, IfSome, [], ◌∷◌, length}
use Rattle.patricia_store.specs.Internal.Packing.{most}
use Rattle.patricia_store.specs.Internal.Heads.{byte_of}
use Rattle.patricia_store.specs.Internal.Labels.{label_room}

-- a node with its whole label, its value, its first child and its next sibling
pub record Node (V : Type 0) : Type 0 where
  pub label : List ℕ
  pub value : Option V
  pub child : Option ℕ
  pub sibling : Option ℕ

-- the nodes of a vector, how many there is room for, how many more bytes of labels, and how many
-- bytes are used
pub record Nodes (V : Type 0) : Type 0 where
  pub items : List (Node V)
  pub capacity : ℕ
  pub room : ℕ
  pub used : ℕ

-- none, or the number of a node that there may be
abbrev pub IsLink : Option ℕ → Type 0
IsLink link = IfSome link (λ n. n < most)

module _ {V : Type 0} where
  -- this is so of the node with the number
  abbrev pub ReadsNode : Nodes V → ℕ → (Node V → Type 0) → Type 0
  ReadsNode nodes id is = (n : Node V) → slice_get nodes.items id ≡ Some n → is n

  -- from one number up to another each node has the next one for its sibling, and a first byte
  -- that is less than this one
  pub record IsRun (nodes : Nodes V) (b from to : ℕ) : Type 0 where
    pub forward : from ≤ to
    pub passes : (i : ℕ) → from ≤ i → i < to
        → ReadsNode nodes i (λ n. (n.sibling ≡ Some (i + 1)) × (byte_of n.label < b))

  -- the run ends there: the next node is not its sibling, or its first byte is not less
  abbrev pub EndsRun : Nodes V → ℕ → ℕ → Type 0
  EndsRun nodes b at = ReadsNode nodes at (λ n. n.sibling ≡ Some (at + 1) → b ≤ byte_of n.label)

  -- the node with the number is changed so
  abbrev pub Changes : Nodes V → Nodes V → ℕ → (Node V → Node V) → Type 0
  Changes old new id changed =
      (n : Node V) × (slice_get old.items id ≡ Some n)
      × (new.items ≡ slice_set old.items id (changed n))

  -- and this was its value
  abbrev pub Trades : Nodes V → Nodes V → ℕ → (Node V → Node V) → Option V → Type 0
  Trades old new id changed taken =
      (n : Node V) × (slice_get old.items id ≡ Some n)
      × (new.items ≡ slice_set old.items id (changed n)) × (taken ≡ n.value)

  -- there is room as before
  pub record KeepsRoom (old new : Nodes V) : Type 0 where
    pub capacity_is : new.capacity ≡ old.capacity
    pub room_is : new.room ≡ old.room

  -- how many bytes the labels of nodes take
  abbrev pub labels_room : List (Node V) → ℕ
  labels_room [] = 0
  labels_room (n ∷ nodes) = label_room (length n.label) + labels_room nodes

  -- the node with these parts
  abbrev pub linked : List ℕ → Option V → Option ℕ → Option ℕ → Node V
  linked label value child sibling =
      record { label = label; value = value; child = child; sibling = sibling }

  -- a node without label, value and links
  abbrev pub blank : Node V
  blank = linked [] None None None

  -- the value of a node, where there is one
  abbrev pub value_at : Option (Node V) → Option V
  value_at None = None
  value_at (Some n) = n.value

  -- the nodes with this one at its number, and with w for its value
  abbrev pub with_valued : Nodes V → ℕ → V → Option (Node V) → Nodes V
  with_valued nodes id w None = nodes
  with_valued nodes id w (Some n) =
      record nodes { items = slice_set nodes.items id (record n { value = Some w }) }

  -- a node keeps the first n bytes of its label, and has another value and a new first child. That
  -- has the rest of the label, and the value and the first child that the node had, and this was
  -- its value
  abbrev pub Splits : Nodes V → Nodes V → ℕ → ℕ → ℕ → Option V → Option V → Type 0
  Splits old new id n tail value taken =
      (a b : Node V) × (slice_get old.items id ≡ Some a) × (slice_get old.items tail ≡ Some b)
      × (new.items ≡ slice_set
      (slice_set old.items id (linked (take n a.label) value (Some tail) a.sibling))
      tail (linked (drop n a.label) a.value a.child b.sibling))
      × (taken ≡ b.value)

  -- a node has the label of another behind its own, and another first child and value, and this
  -- was its value
  abbrev pub Joins : Nodes V → Nodes V → ℕ → ℕ → Option ℕ → Option V → Option V → Type 0
  Joins old new upper lower child value taken =
      (a b : Node V) × (slice_get old.items upper ≡ Some a) × (slice_get old.items lower ≡ Some b)
      × (new.items ≡ slice_set old.items upper
      (linked (a.label ++ b.label) value child a.sibling))
      × (taken ≡ a.value)
