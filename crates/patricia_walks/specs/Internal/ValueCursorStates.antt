-- How far a cursor over values has come over a tree.
use Rattle.std.specs.Prelude.{◌≡◌, ◌≢◌, ℕ, Bool, true, false, List, [], ◌∷◌, ◌++◌, Some}
use Rattle.patricia_model.specs.Siblings.{own}
use Rattle.patricia_model.specs.Walks.{values_of}
use Rattle.patricia_walks.specs.Internal.HeldTrees.{entries_to_lend, IsHeld}
use Rattle.patricia_walks.specs.Internal.ValuePositions.{ValuePosition, IsValuePosition}
use Rattle.patricia_walks.specs.Internal.ValuePositions.{place_of, values_left}
use Rattle.patricia_walks.specs.declared.held_tree.ValueSlot.{ValueSlot}
use Rattle.patricia_walks.specs.declared.value_cursor.ValueCursorState.{ValueCursorState}

module _ {V : Type 0} where
  -- its place in the walk over the holders
  abbrev pub spot_of : ValueCursorState V → ValuePosition ValueSlot
  spot_of t = place_of t.tree.parts.arena.nodes.items t.front

  -- who holds the values that are left
  abbrev pub holders_left : ValueCursorState V → List ValueSlot
  holders_left t = values_of (own t.pending) ++ values_left (spot_of t)

  -- it advanced to the first value that was left, or there was none
  abbrev pub Moves : ValueCursorState V → Bool → ValueCursorState V → Type 0
  Moves t false u = (holders_left t ≡ []) × (holders_left u ≡ []) × (u.tree.last ≡ t.tree.last)
  Moves t true u =
      (h : ValueSlot) × (holders_left t ≡ h ∷ holders_left u) × (u.tree.last ≡ Some h)

  -- it was refused, though a value was left
  pub record MoveIsRefused (t u : ValueCursorState V) : Type 0 where
    pub left : holders_left u ≡ holders_left t
    pub last : u.tree.last ≡ t.tree.last
    pub some : holders_left t ≢ []

-- the walk has left the values that the cursor has still to lend
pub record IsValueCursorState (item : List ℕ → Type 0) {V : Type 0} (t : ValueCursorState V)
    : Type 0 where
  pub held : IsHeld item t.tree
  pub position : IsValuePosition (spot_of t)
  pub left_is : holders_left t ≡ values_of (entries_to_lend t.tree [])
