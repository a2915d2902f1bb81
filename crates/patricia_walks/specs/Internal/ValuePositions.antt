-- How far a walk over the values of nodes in one vector has come.
use Rattle.std.specs.Prelude.{◌≡◌, ◌≢◌, ℕ, ◌+◌, ◌<◌, List, [], ◌∷◌, ◌++◌, Option, Some, None}
use Rattle.patricia_model.specs.Siblings.{Siblings, end, node, own, entries}
use Rattle.patricia_model.specs.Walks.{values_of}
use Rattle.patricia_model.specs.Internal.WalkStates.{steps_in}
use Rattle.patricia_store.specs.Internal.Nodes.{Node}
use Rattle.patricia_nodes.specs.Internal.Plans.{plan_at, IsPlan, siblings_at}
use Rattle.patricia_walks.specs.declared.held_tree.ValueSlot.{ValueSlot}
use Rattle.patricia_walks.specs.declared.value_progress.ValueProgress.{ValueProgress}
use Rattle.patricia_walks.specs.Internal.Holders.{numbered_slots, held}

-- a place in a walk over values: the nodes, the number of the siblings that are next, and those of
-- the siblings that wait, the next one last
pub record ValuePosition (V : Type 0) : Type 0 where
  pub nodes : List (Node V)
  pub next : Option ℕ
  pub stack : List (Option ℕ)

module _ {V : Type 0} where
  -- the values of siblings
  abbrev pub values_in : Siblings V → List V
  values_in siblings = values_of (entries siblings)

  -- the values of the siblings that wait
  abbrev pub values_waiting : List (Node V) → List (Option ℕ) → List V
  values_waiting nodes [] = []
  values_waiting nodes (at ∷ ats) = values_waiting nodes ats ++ values_in (siblings_at nodes at)

  -- the values that are left
  abbrev pub values_left : ValuePosition V → List V
  values_left p = values_in (siblings_at p.nodes p.next) ++ values_waiting p.nodes p.stack

  -- the next value was taken, or there was none
  abbrev pub TakesValue : ValuePosition V → Option V → ValuePosition V → Type 0
  TakesValue p None q = (values_left p ≡ []) × (values_left q ≡ [])
  TakesValue p (Some v) q = values_left p ≡ v ∷ values_left q

  -- how many steps a walk over the siblings that wait takes at most
  abbrev pub value_steps_waiting : List (Node V) → List (Option ℕ) → ℕ
  value_steps_waiting nodes [] = 0
  value_steps_waiting nodes (at ∷ ats) =
      steps_in (siblings_at nodes at) + value_steps_waiting nodes ats

  -- and over all that is left
  abbrev pub value_steps_left : ValuePosition V → ℕ
  value_steps_left p = steps_in (siblings_at p.nodes p.next) + value_steps_waiting p.nodes p.stack

  -- each of the siblings has a value or one below it
  abbrev pub HasValues : Siblings V → Type 0
  HasValues end = Unit {0}
  HasValues (node label value child sibling) =
      (values_of (own value ++ entries child) ≢ []) × HasValues child × HasValues sibling

  -- the siblings from a number on stand in the nodes, and each of them has a value or one below it
  pub record AreValueSiblings (nodes : List (Node V)) (at : Option ℕ) : Type 0 where
    pub plan : IsPlan nodes at (plan_at nodes at)
    pub has_values : HasValues (siblings_at nodes at)

  -- so do the siblings from each of these numbers on
  abbrev pub AllValueSiblings : List (Node V) → List (Option ℕ) → Type 0
  AllValueSiblings nodes [] = Unit {0}
  AllValueSiblings nodes (at ∷ ats) = AreValueSiblings nodes at × AllValueSiblings nodes ats

  -- so do the siblings that are next and those that wait
  pub record IsValuePosition (p : ValuePosition V) : Type 0 where
    pub next_siblings : AreValueSiblings p.nodes p.next
    pub siblings : AllValueSiblings p.nodes p.stack

  -- a step of the walk: it passes this value, if any, and fewer steps are left
  pub record Passes (p : ValuePosition V) (value : Option V) (q : ValuePosition V) : Type 0 where
    pub position : IsValuePosition q
    pub left : values_left p ≡ values_of (own value) ++ values_left q
    pub less : value_steps_left q < value_steps_left p

  -- it was refused, though a value was left
  pub record IsRefused (p q : ValuePosition V) : Type 0 where
    pub left : values_left q ≡ values_left p
    pub some : values_left p ≢ []

module _ {V : Type 0} where
  -- the place of a walk over the holders of the values
  abbrev pub place_of : List (Node V) → ValueProgress → ValuePosition ValueSlot
  place_of nodes f = record {
    nodes = numbered_slots 0 nodes;
    next = f.next;
    stack = f.stack.items;
  }

  -- the values that nodes hold
  abbrev pub values_held : List (Node V) → List ValueSlot → List V
  values_held nodes [] = []
  values_held nodes (h ∷ hs) = values_of (own (held None nodes h)) ++ values_held nodes hs

  -- each of these holds a value
  abbrev pub AllHold : List (Node V) → List ValueSlot → Type 0
  AllHold nodes [] = Unit {0}
  AllHold nodes (h ∷ hs) = (held None nodes h ≢ None) × AllHold nodes hs

  -- the values that a walk has left
  abbrev pub values_ahead : List (Node V) → ValueProgress → List V
  values_ahead nodes f = values_held nodes (values_left (place_of nodes f))

  -- it is one over these nodes
  pub record IsFrontOf (nodes : List (Node V)) (f : ValueProgress) : Type 0 where
    pub position : IsValuePosition (place_of nodes f)
    pub hold : AllHold nodes (values_left (place_of nodes f))
