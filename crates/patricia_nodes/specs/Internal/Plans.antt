-- How nodes in one vector stand for siblings.
use Rattle.std.specs.Prelude.{◌≡◌, ℕ, zero, suc, ◌+◌, ◌≤◌, List, [], ◌∷◌, length, Option, Some}
use Rattle.std.specs.Prelude.{None, nat_lt, nat_eq, if◌then◌else◌, slice_get}
use Rattle.patricia_store.specs.Internal.Nodes.{Node}
pub use Rattle.patricia_store.specs.Internal.Nodes.{linked}
use Rattle.patricia_nodes.specs.declared.arena.NodeArena.{NodeArena}
use Rattle.patricia_model.specs.Siblings.{Siblings, end, node, entries}

-- siblings, and what is below them, with the number of each node
pub data Plan (V : Type 0) : Type 0 where
  Nil : Plan V
  Cell : (id : ℕ) (label : List ℕ) (value : Option V) (child sibling : Plan V) → Plan V

-- 1 at this very number
abbrev pub one : ℕ → ℕ → ℕ
one id at = if nat_eq id at then 1 else 0

-- 1 at a number below n
abbrev pub below : ℕ → ℕ → ℕ
below n at = if nat_lt at n then 1 else 0

-- how often a number stands in a list
abbrev pub times : List ℕ → ℕ → ℕ
times [] at = 0
times (id ∷ ids) at = one id at + times ids at

-- the first number of a list
abbrev pub first : List ℕ → Option ℕ
first [] = None
first (id ∷ ids) = Some id

module _ {V : Type 0} where
  -- the number of the first node
  abbrev pub head : Plan V → Option ℕ
  head Nil = None
  head (Cell id label value child sibling) = Some id

  -- the siblings without the numbers
  abbrev pub siblings_in : Plan V → Siblings V
  siblings_in Nil = end
  siblings_in (Cell id label value child sibling) =
      node label value (siblings_in child) (siblings_in sibling)

  -- how many nodes there are
  abbrev pub size : Plan V → ℕ
  size Nil = 0
  size (Cell id label value child sibling) = suc (size child + size sibling)

  -- how often a number stands in a plan
  abbrev pub count : Plan V → ℕ → ℕ
  count Nil at = 0
  count (Cell id label value child sibling) at = one id at + (count child at + count sibling at)

  -- at each number of the plan is its node, linked to the first of its children and to its sibling
  abbrev pub LaidOut : List (Node V) → Plan V → Type 0
  LaidOut nodes Nil = Unit {0}
  LaidOut nodes (Cell id label value child sibling) =
      (slice_get nodes id ≡ Some (linked label value (head child) (head sibling)))
      × LaidOut nodes child × LaidOut nodes sibling

  -- at each number of the list is a node that is linked to the next
  abbrev pub IsChain : List (Node V) → List ℕ → Type 0
  IsChain nodes [] = Unit {0}
  IsChain nodes (id ∷ ids) =
      ((n : Node V) × (slice_get nodes id ≡ Some n) × (n.sibling ≡ first ids)) × IsChain nodes ids

  -- the nodes from this number on are this plan
  pub record IsPlan (nodes : List (Node V)) (at : Option ℕ) (plan : Plan V) : Type 0 where
    pub stands : LaidOut nodes plan
    pub at_is : at ≡ head plan
    pub fits : size plan ≤ length nodes

  -- the nodes are this plan, these are free, and each number below the length stands once in one of
  -- the two
  pub record IsSound (nodes : List (Node V)) (root free : Option ℕ) (plan : Plan V) (spare : List ℕ)
      : Type 0 where
    pub plan_ok : IsPlan nodes root plan
    pub chain : IsChain nodes spare
    pub free_is : free ≡ first spare
    pub once : (at : ℕ) → count plan at + times spare at ≡ below (length nodes) at
    pub total : size plan + length spare ≡ length nodes

  -- the plan of a node, by how its links are read
  abbrev pub read_node : ℕ → (Option ℕ → Plan V) → Option (Node V) → Plan V
  read_node id rest None = Nil
  read_node id rest (Some n) = Cell id n.label n.value (rest n.child) (rest n.sibling)

  -- the plan from a number on, to a depth of n links
  abbrev pub read : ℕ → List (Node V) → Option ℕ → Plan V
  read zero nodes at = Nil
  read (suc n) nodes None = Nil
  read (suc n) nodes (Some id) = read_node id (λ at. read n nodes at) (slice_get nodes id)

  abbrev pub plan_at : List (Node V) → Option ℕ → Plan V
  plan_at nodes at = read (length nodes) nodes at

  -- the siblings from a number on
  abbrev pub siblings_at : List (Node V) → Option ℕ → Siblings V
  siblings_at nodes at = siblings_in (plan_at nodes at)

  -- the siblings that the nodes stand for
  abbrev pub siblings_of : NodeArena V → Siblings V
  siblings_of s = siblings_in (plan_at s.nodes.items s.root)

  -- and its entries
  abbrev pub entries_of : NodeArena V → List (List ℕ × V)
  entries_of s = entries (siblings_of s)

  -- they are this plan, and no node is lost
  abbrev pub Holds : NodeArena V → Plan V → Type 0
  Holds s plan = (spare : List ℕ) × IsSound s.nodes.items s.root s.free plan spare

  -- they are some plan
  abbrev pub IsWellFormed : NodeArena V → Type 0
  IsWellFormed s = (plan : Plan V) × Holds s plan
