-- How nodes are linked by new numbers, and lie in another order.
use Rattle.std.specs.Prelude.{◌≡◌, ℕ, ◌+◌, List, length, Option, Some, None, slice_get}
use Rattle.std.specs.Prelude.{get_or, take}
use Rattle.patricia_store.specs.declared.head.Head.{Head}
use Rattle.patricia_store.specs.Internal.Heads.{child_in, sibling_in, with_child, with_sibling}
use Rattle.patricia_store.specs.Internal.Nodes.{Node}

-- the new number of a node, which the list has at the old one; one that it does not have stays
abbrev pub place_of : List ℕ → ℕ → ℕ
place_of places id = get_or places id id

-- the link to the same node
abbrev pub moved : List ℕ → Option ℕ → Option ℕ
moved places None = None
moved places (Some id) = Some (place_of places id)

-- the head of a node that comes before this number, linked by new numbers
abbrev pub moved_head : ℕ → List ℕ → Head → Head
moved_head next places head =
    with_sibling next (moved places (sibling_in head))
    (with_child (moved places (child_in head)) head.link head)

-- each node's head is linked by new numbers, as it is at its new place
pub record RenumbersHeads (places : List ℕ) (old new : List Head) : Type 0 where
  pub head : (at : ℕ) (h : Head) → slice_get old at ≡ Some h
      → slice_get new at ≡ Some (moved_head (place_of places at + 1) places h)
  pub long : length new ≡ length old

module _ {V : Type 0} where
  -- the node, linked by new numbers
  abbrev pub renumbered : List ℕ → Node V → Node V
  renumbered places n = record n { child = moved places n.child; sibling = moved places n.sibling }

  -- at each place is the node that had the number there, linked by new numbers
  pub record Rearranges (order places : List ℕ) (old new : List (Node V)) : Type 0 where
    pub node : (i id : ℕ) (n : Node V) → slice_get order i ≡ Some id → slice_get old id ≡ Some n
        → slice_get new i ≡ Some (renumbered places n)
    pub long : length new ≡ length old

  -- the first nodes of such an order are left
  abbrev pub KeepsRearranged : ℕ → List ℕ → List ℕ → List (Node V) → List (Node V) → Type 0
  KeepsRearranged n order places old new =
      (all : List (Node V)) × Rearranges order places old all × (new ≡ take n all)
