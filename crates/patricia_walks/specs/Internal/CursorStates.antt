-- How far a cursor has come over a tree.
use Rattle.std.specs.Prelude.{◌≡◌, ◌≤◌, ℕ, List, [], length, take, Option, Some, None}
use Rattle.patricia_keys.specs.Keys.{IsValid}
use Rattle.patricia_model.specs.Prefixes.{under}
use Rattle.patricia_model.specs.Siblings.{IsCanonical}
use Rattle.patricia_model.specs.Internal.WalkStates.{entries_left}
use Rattle.patricia_store.specs.Internal.Nodes.{Node}
use Rattle.patricia_nodes.specs.declared.arena.NodeArena.{NodeArena}
use Rattle.patricia_nodes.specs.Internal.Plans.{IsPlan, plan_at, count, siblings_at}
use Rattle.patricia_walks.specs.Internal.HeldTrees.{AreEntriesLeft, IsHeld, Refuses, Takes}
use Rattle.patricia_walks.specs.Internal.Fronts.{FrontPosition, IsFrontPosition, state_at}
use Rattle.patricia_nodes.specs.Internal.Places.{entries_below}
use Rattle.patricia_walks.specs.declared.held_tree.ValueSlot.{ValueSlot}
use Rattle.patricia_walks.specs.declared.cursor_state.CursorState.{CursorState}
use Rattle.patricia_walks.specs.declared.cursor_state.Start.{Start}
use Rattle.patricia_walks.specs.Internal.Holders.{numbered_slots, holders}

module _ {V : Type 0} where
  -- its place in the walk over the holders
  abbrev pub position_of : CursorState V → FrontPosition ValueSlot
  position_of t = record {
    nodes = numbered_slots 0 t.tree.parts.arena.nodes.items;
    path = t.progress.path.items;
    front = t.progress.front;
    pending = t.pending;
    next = t.progress.next;
    stack = t.progress.stack.items;
  }

  -- the keys that are left, with who holds their values
  abbrev pub left_of : CursorState V → List (List ℕ × ValueSlot)
  left_of t = entries_left (state_at (position_of t))

  -- it advanced to the first key that was left, or there was none
  abbrev pub Advances : CursorState V → Option (List ℕ) → CursorState V → Type 0
  Advances t key u = Takes t.tree (left_of t) key u.tree (left_of u)

  -- it was refused, though a key was left
  abbrev pub StepIsRefused : CursorState V → CursorState V → Type 0
  StepIsRefused t u = Refuses t.tree (left_of t) u.tree (left_of u)

-- a walk can begin at this node, behind these bytes
pub record IsAtStart (item : List ℕ → Type 0) (nodes : List (Node ValueSlot)) (front : List ℕ)
    (top : ℕ) : Type 0 where
  pub valid : IsValid item front
  pub plan : IsPlan nodes (Some top) (plan_at nodes (Some top))
  pub once : (at : ℕ) → count (plan_at nodes (Some top)) at ≤ 1
  pub canonical : IsCanonical item (siblings_at nodes (Some top))

-- the entries under a prefix are below the node where a walk can begin
pub record StartsUnder {V : Type 0} (item : List ℕ → Type 0) (arena : NodeArena V) (prefix : List ℕ)
    (s : Start) : Type 0 where
  pub within : s.front ≤ length prefix
  pub start : IsAtStart item (numbered_slots 0 arena.nodes.items) (take s.front prefix) s.top
  pub entries :
      entries_below (take s.front prefix)
      (siblings_at (numbered_slots 0 arena.nodes.items) (Some s.top))
      ≡ under prefix (holders None arena)

module _ (item : List ℕ → Type 0) {V : Type 0} where
  -- the walk has left what the cursor has still to lend
  pub record IsCursorState (t : CursorState V) (prefix : List ℕ) : Type 0 where
    pub held : IsHeld item t.tree
    pub position : IsFrontPosition item (position_of t)
    pub left_is : AreEntriesLeft t.tree prefix (left_of t)

  -- the walk has not begun, and what is left is below this node, behind these bytes of the prefix
  pub record IsAhead (t : CursorState V) (prefix : List ℕ) (front top : ℕ) : Type 0 where
    pub held : IsHeld item t.tree
    pub none : t.tree.last ≡ None
    pub within : front ≤ length prefix
    pub stack : t.progress.stack.items ≡ []
    pub start :
        IsAtStart item (numbered_slots 0 t.tree.parts.arena.nodes.items) (take front prefix) top
    pub left_is :
        AreEntriesLeft t.tree prefix (entries_below (take front prefix)
        (siblings_at (numbered_slots 0 t.tree.parts.arena.nodes.items) (Some top)))

  -- the one or the other
  abbrev pub IsPrefixCursor : CursorState V → List ℕ → Option Start → Type 0
  IsPrefixCursor t prefix None = IsCursorState t prefix
  IsPrefixCursor t prefix (Some s) = IsAhead t prefix s.front s.top
