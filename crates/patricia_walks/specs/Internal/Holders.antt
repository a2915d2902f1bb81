-- The nodes with who holds each value in place of the values.
use Rattle.std.specs.Prelude.{◌≡◌, ℕ, suc, ◌+◌, Bool, true, false, nat_eq, if◌then◌else◌, List, []}
use Rattle.std.specs.Prelude.{◌∷◌, ◌++◌, Option, Some, None, slice_get}
use Rattle.std.specs.Option.{option_map}
use Rattle.patricia_model.specs.Siblings.{own, entries}
use Rattle.patricia_store.specs.Internal.Nodes.{Node}
use Rattle.patricia_nodes.specs.declared.arena.NodeArena.{NodeArena}
use Rattle.patricia_nodes.specs.Internal.Plans.{linked, siblings_at}
use Rattle.patricia_nodes.specs.Internal.NodeVecs.{value_in}
use Rattle.patricia_walks.specs.declared.held_tree.ValueSlot.{ValueSlot}
use Rattle.patricia_walks.specs.declared.held_tree.ValueSlot.TheVariants.{OfEmptyKey, OfNode}

module _ {V : Type 0} where
  -- each value replaced by the number of its node, from this number on
  abbrev pub numbered_slots : ℕ → List (Node V) → List (Node ValueSlot)
  numbered_slots i [] = []
  numbered_slots i (n ∷ ns) =
      linked n.label (option_map (λ _. OfNode i) n.value) n.child n.sibling
      ∷ numbered_slots (suc i) ns

  -- the entries of a tree with who holds each value
  abbrev pub holders : Option V → NodeArena V → List (List ℕ × ValueSlot)
  holders value arena =
      own (option_map (λ _. OfEmptyKey) value)
      ++ entries (siblings_at (numbered_slots 0 arena.nodes.items) arena.root)

  -- the value that is held there
  abbrev pub held : Option V → List (Node V) → ValueSlot → Option V
  held value nodes OfEmptyKey = value
  held value nodes (OfNode id) = value_in (slice_get nodes id)

-- the same holder
abbrev pub is_same : ValueSlot → ValueSlot → Bool
is_same OfEmptyKey OfEmptyKey = true
is_same OfEmptyKey (OfNode j) = false
is_same (OfNode i) OfEmptyKey = false
is_same (OfNode i) (OfNode j) = nat_eq i j

-- the key at which it holds a value
abbrev pub key_at : List (List ℕ × ValueSlot) → ValueSlot → Option (List ℕ)
key_at [] h = None
key_at (e ∷ es) h = if is_same e.1 h then Some e.0 else key_at es h

-- how often it stands in these entries
abbrev pub uses : List (List ℕ × ValueSlot) → ValueSlot → ℕ
uses [] h = 0
uses (e ∷ es) h = (if is_same e.1 h then 1 else 0) + uses es h

-- the entries have the same keys, and each value is the one that is held there
abbrev pub ReadsHeld : {V : Type 0} → (ValueSlot → Option V) → List (List ℕ × ValueSlot)
    → List (List ℕ × V) → Type 0
ReadsHeld held [] [] = Unit {0}
ReadsHeld held [] (r ∷ rs) = ⊥
ReadsHeld held (e ∷ es) [] = ⊥
ReadsHeld held (e ∷ es) (r ∷ rs) = (e.0 ≡ r.0) × (held e.1 ≡ Some r.1) × ReadsHeld held es rs
