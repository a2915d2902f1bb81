-- What is left of nodes in one vector where those under a prefix are removed.
use Rattle.std.specs.Prelude.{◌≡◌, ℕ, ◌≤◌, ◌+◌, suc, List, ◌++◌, length, drop, Option}
use Rattle.patricia_store.specs.Internal.Labels.{joined_room}
use Rattle.patricia_nodes.specs.declared.arena.NodeArena.{NodeArena}
use Rattle.patricia_nodes.specs.declared.arena.seek.LinkRef.{LinkRef}
use Rattle.patricia_nodes.specs.Internal.Plans.{Plan, Cell, siblings_in, size, Holds, IsWellFormed}
use Rattle.patricia_nodes.specs.Internal.Plans.{siblings_of, entries_of}
use Rattle.patricia_nodes.specs.Internal.Growth.{bytes}
use Rattle.patricia_nodes.specs.Internal.Places.{Frame, fill, link_ref_of}
use Rattle.patricia_model.specs.Prefixes.{outside, under}
use Rattle.patricia_model.specs.Siblings.{node, end, own, entries, IsCanonical}

module _ {V : Type 0} where
  -- how many of the nodes have a value
  abbrev pub values : Plan V → ℕ
  values p = length (entries (siblings_in p))

  -- the number is that of a node, and this is what is below it
  abbrev pub HasSplitNode : NodeArena V → ℕ → Type 0
  HasSplitNode s id =
      (frames : List (Frame V)) × (label : List ℕ) × (value : Option V) × (child : Plan V)
      × (sibling : Plan V)
      × Holds s (fill frames (Cell id label value child sibling))

  -- it stands at the link, and there is so much room
  abbrev pub HasTreeAt : NodeArena V → LinkRef → ℕ → ℕ → Type 0
  HasTreeAt s link_ref id capacity =
      (frames : List (Frame V)) × (label : List ℕ) × (value : Option V) × (child : Plan V)
      × (sibling : Plan V)
      × (link_ref ≡ link_ref_of frames) × Holds s (fill frames (Cell id label value child sibling))
      × (suc (size child) ≤ capacity)

  -- so many nodes are that node and those below it, and so many of them have a value
  abbrev pub CountsTree : NodeArena V → ℕ → ℕ → ℕ → Type 0
  CountsTree s id nodes count =
      (frames : List (Frame V)) (label : List ℕ) (value : Option V) (child sibling : Plan V)
      → Holds s (fill frames (Cell id label value child sibling))
      → (suc (size child) ≤ nodes) × (count ≡ length (own value ++ entries (siblings_in child)))

  -- so many bytes are enough for the labels of that node and of those below it, where its own is
  -- the prefix, and what it has past so many bytes
  abbrev pub FitsTree : NodeArena V → ℕ → List ℕ → ℕ → ℕ → Type 0
  FitsTree s id prefix passed room =
      (frames : List (Frame V)) (label : List ℕ) (value : Option V) (child sibling : Plan V)
      → Holds s (fill frames (Cell id label value child sibling))
      → joined_room (length prefix) (length (drop passed label)) + bytes child ≤ room

  -- that node and those below it are gone, and stand in the other nodes under this label: the
  -- prefix, and what the node's own has past so many bytes
  abbrev pub MovesOut : NodeArena V → NodeArena V → LinkRef → ℕ → List ℕ → ℕ → NodeArena V → Type 0
  MovesOut old new link_ref id prefix passed moved =
      (frames : List (Frame V)) (label : List ℕ) (value : Option V) (child sibling : Plan V)
      → link_ref ≡ link_ref_of frames
      → Holds old (fill frames (Cell id label value child sibling))
      → Holds new (fill frames sibling)
      × ((plan : Plan V) × Holds moved plan
      × (siblings_in plan ≡ node (prefix ++ drop passed label) value (siblings_in child) end))

-- what is under the prefix was removed to other nodes, of which so many have a value, and the rest
-- is left
pub record SplitsOff (item : List ℕ → Type 0) {V : Type 0} (old new : NodeArena V) (prefix : List ℕ)
    (taken : NodeArena V) (count : ℕ) : Type 0 where
  pub whole : IsWellFormed new
  pub canonical : IsCanonical item (siblings_of new)
  pub left_is : entries_of new ≡ outside prefix (entries_of old)
  pub taken_whole : IsWellFormed taken
  pub taken_ok : IsCanonical item (siblings_of taken)
  pub taken_is : entries_of taken ≡ under prefix (entries_of old)
  pub counted : count ≡ length (entries_of taken)
