-- The order in which nodes are to lie.
use Rattle.std.specs.Prelude.{◌≡◌, ℕ, ◌+◌, List, [], ◌∷◌, ◌++◌, length, Option, Some, slice_get}
use Rattle.patricia_store.specs.Internal.Nodes.{Node}
use Rattle.patricia_nodes.specs.declared.arena.NodeArena.{NodeArena}
use Rattle.patricia_nodes.specs.Internal.Plans.{Plan, head, size, count, times, first}
use Rattle.patricia_nodes.specs.Internal.Plans.{LaidOut, IsChain, IsSound}

module _ {V : Type 0} where
  -- the numbers of all nodes: so many of used ones, each as often as the plan has it, and then the
  -- free ones
  pub record Lists (plan : Plan V) (spare order : List ℕ) (used : ℕ) : Type 0 where
    pub first : List ℕ
    pub order_is : order ≡ first ++ spare
    pub used_is : length first ≡ used
    pub once : (at : ℕ) → times first at ≡ count plan at
    pub sized : used ≡ size plan

  -- the order has the nodes, whatever plan they are
  abbrev pub ListsNodes : NodeArena V → List ℕ → ℕ → Type 0
  ListsNodes s order used =
      (plan : Plan V) (spare : List ℕ) → IsSound s.nodes.items s.root s.free plan spare
      → Lists plan spare order used

  -- the nodes from a link on are linked by these numbers
  pub record AreSiblings (nodes : List (Node V)) (at : Option ℕ) (ids : List ℕ) : Type 0 where
    pub chain : IsChain nodes ids
    pub at_is : at ≡ first ids

  -- how often a number stands in some plans
  abbrev pub counts : List (Plan V) → ℕ → ℕ
  counts [] at = 0
  counts (c ∷ cs) at = count c at + counts cs at

  -- how many nodes they have
  abbrev pub sizes : List (Plan V) → ℕ
  sizes [] = 0
  sizes (c ∷ cs) = size c + sizes cs

  -- the node at a number has this plan below it
  pub record HasBelow (nodes : List (Node V)) (id : ℕ) (c : Plan V) : Type 0 where
    pub holder : Node V
    pub there : slice_get nodes id ≡ Some holder
    pub child_is : holder.child ≡ head c
    pub stands : LaidOut nodes c

  -- each node of the list has one of the plans below it
  abbrev pub Waits : List (Node V) → List ℕ → List (Plan V) → Type 0
  Waits nodes [] [] = Unit {0}
  Waits nodes [] (c ∷ cs) = ⊥
  Waits nodes (id ∷ ids) [] = ⊥
  Waits nodes (id ∷ ids) (c ∷ cs) = HasBelow nodes id c × Waits nodes ids cs

  -- the order has these plans behind what it had before
  pub record ListsBelow (cs : List (Plan V)) (order longer : List ℕ) : Type 0 where
    pub more : List ℕ
    pub longer_is : longer ≡ order ++ more
    pub counted : (at : ℕ) → times more at ≡ counts cs at
    pub sized : length more ≡ sizes cs
