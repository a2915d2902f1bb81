-- How far a walk has come whose next siblings stand behind the first bytes of its path.
--
-- The path stays that of the last value. While the siblings that are next stand behind fewer bytes,
-- they are seen as the last of those that wait.
use Rattle.std.specs.Prelude.{◌≡◌, ◌≢◌, ℕ, ◌+◌, ◌*◌, ◌<◌, ◌≤◌, List, ◌++◌, Option, None, length}
use Rattle.std.specs.Prelude.{nat_lt, take, if◌then◌else◌}
use Rattle.std.specs.Option.{option_copied}
use Rattle.patricia_model.specs.Siblings.{prefixed, own}
use Rattle.patricia_model.specs.Internal.WalkStates.{WalkState, entries_left, steps_left}
use Rattle.patricia_store.specs.Internal.Nodes.{Node}
use Rattle.patricia_walks.specs.declared.progress.Progress.{Progress}
use Rattle.patricia_walks.specs.declared.walk.Traversal.{Traversal}
use Rattle.patricia_walks.specs.declared.into_walk.OwnedTraversal.{OwnedTraversal}
use Rattle.patricia_walks.specs.Internal.Positions.{Position, IsPosition, state_of, with_siblings}

-- a place in a walk: the nodes, the bytes of the last key, how many of them stand before the
-- siblings that are next, the value that is due, the number of these siblings, and those of the
-- siblings that wait, each behind so many of the bytes
pub record FrontPosition (V : Type 0) : Type 0 where
  pub nodes : List (Node V)
  pub path : List ℕ
  pub front : ℕ
  pub pending : Option V
  pub next : Option ℕ
  pub stack : List (ℕ × Option ℕ)

-- the path is cut to the bytes before the siblings that are next, and the walk stays there
pub record IsCut (p q : Progress) : Type 0 where
  pub path : q.path.items ≡ take p.front p.path.items
  pub front : q.front ≡ p.front
  pub next : q.next ≡ p.next
  pub stack : q.stack.items ≡ p.stack.items

-- the siblings that are next behind all bytes of the path
abbrev pub next_in : ℕ → List ℕ → Option ℕ → Option ℕ
next_in front path next = if nat_lt front (length path) then None else next

-- the siblings that wait, and those that are next behind fewer bytes
abbrev pub stack_in : ℕ → List ℕ → Option ℕ → List (ℕ × Option ℕ) → List (ℕ × Option ℕ)
stack_in front path next stack =
    if nat_lt front (length path) then with_siblings stack front next else stack

module _ {V : Type 0} where
  -- the place of a walk by reference
  abbrev pub lent : Traversal V → FrontPosition V
  lent p = record {
    nodes = p.arena.now.nodes.items;
    path = p.progress.path.items;
    front = p.progress.front;
    pending = option_copied p.pending;
    next = p.progress.next;
    stack = p.progress.stack.items;
  }

  -- and of a walk that owns the nodes
  abbrev pub owned : OwnedTraversal V → FrontPosition V
  owned p = record {
    nodes = p.arena.nodes.items;
    path = p.progress.path.items;
    front = p.progress.front;
    pending = p.pending;
    next = p.progress.next;
    stack = p.progress.stack.items;
  }

  -- a walk enters a node: its label stands behind the first bytes of the path, and its children are
  -- next then, or its siblings, where it has no children
  pub record Enters (n : Node V) (p q : Progress) : Type 0 where
    pub path : q.path.items ≡ take p.front p.path.items ++ n.label
    pub beside : n.child ≡ None
        → (q.front ≡ p.front) × (q.next ≡ n.sibling) × (q.stack.items ≡ p.stack.items)
    pub below : n.child ≢ None → (q.front ≡ length q.path.items) × (q.next ≡ n.child)
        × (q.stack.items ≡ with_siblings p.stack.items p.front n.sibling)

  -- the position where it is seen
  abbrev pub seen : FrontPosition V → Position V
  seen p = record {
    nodes = p.nodes;
    path = p.path;
    pending = p.pending;
    next = next_in p.front p.path p.next;
    stack = stack_in p.front p.path p.next p.stack;
  }

  -- and that with the siblings themselves
  abbrev pub state_at : FrontPosition V → WalkState V
  state_at p = state_of (seen p)

  -- how many steps are left at most, with those back to siblings that wait
  abbrev pub moves_left : FrontPosition V → ℕ
  moves_left p = 2 * steps_left (state_at p) + length p.stack

module _ (item : List ℕ → Type 0) {V : Type 0} where
  -- the walk stands at a position, and the siblings that are next behind bytes of its path
  pub record IsFrontPosition (p : FrontPosition V) : Type 0 where
    pub position : IsPosition item (seen p)
    pub within : p.front ≤ length p.path

  -- a step of it, with the value that it takes
  pub record Moves (p : FrontPosition V) (value : Option V) (q : FrontPosition V) : Type 0 where
    pub place : IsFrontPosition q
    pub taken : q.pending ≡ None
    pub left : entries_left (state_at p)
        ≡ prefixed q.path (own value) ++ entries_left (state_at q)
    pub less : moves_left q < moves_left p
