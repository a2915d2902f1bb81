-- How far nodes of one vector are relocated to another, in which order so ever.
use Rattle.std.specs.Prelude.{◌≡◌, ℕ, ◌+◌, ◌≤◌, Bool, true, false, nat_lt, if◌then◌else◌, List}
use Rattle.std.specs.Prelude.{length, Option, Some, None, slice_get}
use Rattle.patricia_store.specs.Internal.Nodes.{Node, Nodes}
use Rattle.patricia_nodes.specs.declared.arena.NodeArena.{NodeArena}
use Rattle.patricia_nodes.specs.Internal.Plans.{Plan, Nil, Cell, linked, head, siblings_in, size}
use Rattle.patricia_nodes.specs.Internal.Plans.{count}
use Rattle.patricia_nodes.specs.Internal.Plans.{one}
use Rattle.patricia_nodes.specs.Internal.Plans.{below, LaidOut}
use Rattle.patricia_nodes.specs.Internal.Growth.{TakesNodes, count_below, size_below, bytes}
use Rattle.patricia_nodes.specs.Internal.Growth.{bytes_below}
use Rattle.patricia_nodes.specs.Internal.Growth.{numbered_siblings}

-- a plan in the new vector: the children of a node are there too, or they are a plan in the old one
pub data Mix (V : Type 0) : Type 0 where
  Empty : Mix V
  Done : (id : ℕ) (label : List ℕ) (value : Option V) (child sibling : Mix V) → Mix V
  Open : (id : ℕ) (label : List ℕ) (value : Option V) (child : Plan V) (sibling : Mix V) → Mix V

-- a mark at each number from this one on, and at those below it that were marked
abbrev pub marked_from : ℕ → (ℕ → Bool) → ℕ → Bool
marked_from start marks at = if nat_lt at start then marks at else true

module _ {V : Type 0} where
  -- the plan without the difference
  abbrev pub flat : Mix V → Plan V
  flat Empty = Nil
  flat (Done id l v c d) = Cell id l v (flat c) (flat d)
  flat (Open id l v c d) = Cell id l v c (flat d)

  -- the number of the first of the siblings
  abbrev pub first_of : Mix V → Option ℕ
  first_of Empty = None
  first_of (Done id l v c d) = Some id
  first_of (Open id l v c d) = Some id

  -- each node is where it says
  abbrev pub Lies : List (Node V) → List (Node V) → Mix V → Type 0
  Lies from to Empty = Unit {0}
  Lies from to (Done id l v c d) =
      (slice_get to id ≡ Some (linked l v (first_of c) (first_of d)))
      × Lies from to c × Lies from to d
  Lies from to (Open id l v c d) =
      (slice_get to id ≡ Some (linked l v (head c) (first_of d)))
      × LaidOut from c × Lies from to d

  -- the marked nodes have their children in the new vector, and the others do not
  abbrev pub AreMoved : (ℕ → Bool) → Mix V → Type 0
  AreMoved marks Empty = Unit {0}
  AreMoved marks (Done id l v c d) = (marks id ≡ true) × AreMoved marks c × AreMoved marks d
  AreMoved marks (Open id l v c d) = (marks id ≡ false) × AreMoved marks d

  -- how often a number stands in the new part, and in the old part
  abbrev pub news : Mix V → ℕ → ℕ
  news Empty at = 0
  news (Done id l v c d) at = one id at + (news c at + news d at)
  news (Open id l v c d) at = one id at + news d at

  -- how often a number is that of a node still to be moved
  abbrev pub olds : Mix V → ℕ → ℕ
  olds Empty at = 0
  olds (Done id l v c d) at = olds c at + olds d at
  olds (Open id l v c d) at = count c at + olds d at

  -- how many nodes are in the old part
  abbrev pub waits : Mix V → ℕ
  waits Empty = 0
  waits (Done id l v c d) = waits c + waits d
  waits (Open id l v c d) = size c + waits d

  -- how many bytes the labels take of the nodes in the old part
  abbrev pub waiting_bytes : Mix V → ℕ
  waiting_bytes Empty = 0
  waiting_bytes (Done id l v c d) = waiting_bytes c + waiting_bytes d
  waiting_bytes (Open id l v c d) = bytes c + waiting_bytes d

  -- the marked nodes have their children in the new vector, and all nodes together are the plan
  pub record Laying (p : Plan V) (from : List (Node V)) (marks : ℕ → Bool) (to : List (Node V))
      (root : Option ℕ) : Type 0 where
    pub mix : Mix V
    pub siblings_are : siblings_in (flat mix) ≡ siblings_in p
    pub size_is : size (flat mix) ≡ size p
    pub root_is : root ≡ first_of mix
    pub lies : Lies from to mix
    pub moved : AreMoved marks mix
    pub news_once : (at : ℕ) → news mix at ≡ below (length to) at
    pub olds_once : (at : ℕ) → olds mix at ≤ 1
    pub sized : length to + waits mix ≡ size p

  -- what is taken from the old nodes meanwhile
  pub record Emptied (old : NodeArena V) (w : Plan V) (mix : Mix V) (now : NodeArena V)
      : Type 0 where
    pub counts : ℕ → ℕ
    pub number : ℕ
    pub takes : TakesNodes old now counts number
    pub split : (at : ℕ) → counts at + olds mix at ≡ count_below w at
    pub sized : number + waits mix ≡ size_below w

  -- nodes moved from a vector, one list of siblings after the other: what was moved, and what
  -- waits. The labels of what was moved took their bytes of the room that there was at first
  pub record Filling (old : NodeArena V) (w : Plan V) (now : NodeArena V) (marks : ℕ → Bool)
      (room : ℕ) (to : Nodes V) : Type 0 where
    pub laying : Laying w now.nodes.items marks to.items (head (numbered_siblings 0 w))
    pub emptied : Emptied old w laying.mix now
    pub bytes_taken : room + waiting_bytes laying.mix ≤ to.room + bytes_below w

  -- the nodes from a number on wait for their children, for which there is room
  pub record WaitsFrom (now : NodeArena V) (start : ℕ) (to : Nodes V) : Type 0 where
    pub old : NodeArena V
    pub plan : Plan V
    pub marks : ℕ → Bool
    pub room : ℕ
    pub filling : Filling old plan now marks room to
    pub unmarked : (at : ℕ) → start ≤ at → marks at ≡ false
    pub nodes_fit : size plan ≤ to.capacity
    pub bytes_fit : bytes_below plan ≤ room

  -- what is below the nodes from a number on has come to the new nodes, whatever came before
  abbrev pub MovesFrom : (before after : NodeArena V) (start : ℕ) (to longer : Nodes V) → Type 0
  MovesFrom before after start to longer =
      (old : NodeArena V) (w : Plan V) (marks : ℕ → Bool) (room : ℕ)
      → Filling old w before marks room to → ((at : ℕ) → start ≤ at → marks at ≡ false)
      → Filling old w after (marked_from start marks) room longer
