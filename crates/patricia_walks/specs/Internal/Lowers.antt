-- How far a descent to the last entry before a key has come.
use Rattle.std.specs.Prelude.{◌≡◌, ◌<◌, ◌≤◌, ℕ, List, length, take, drop, Option, Some, None}
use Rattle.std.specs.List.{last_or}
use Rattle.patricia_keys.specs.Keys.{IsValid}
use Rattle.patricia_model.specs.Ranges.{before}
use Rattle.patricia_model.specs.Siblings.{Siblings, prefixed, entries, IsCanonical}
use Rattle.patricia_model.specs.Internal.WalkStates.{steps_in}
use Rattle.patricia_store.specs.Internal.Nodes.{Node}
use Rattle.patricia_nodes.specs.Internal.Plans.{plan_at, IsPlan, siblings_at}
use Rattle.patricia_nodes.specs.Internal.Places.{entries_below}
use Rattle.patricia_walks.specs.declared.last.Lower.{Lower}
use Rattle.patricia_walks.specs.declared.last.Lower.TheVariants.{Nowhere, Value, Below}
use Rattle.patricia_walks.specs.declared.last.LowerDescent.{LowerDescent}

-- siblings of the key kind begin at this number
pub record AreSiblingsAt (item : List ℕ → Type 0) {V : Type 0} (nodes : List (Node V))
    (at : Option ℕ) : Type 0 where
  pub plan : IsPlan nodes at (plan_at nodes at)
  pub canonical : IsCanonical item (siblings_at nodes at)

module _ {V : Type 0} (key : List ℕ) (nodes : List (Node V)) where
  -- the entry that stands there
  abbrev pub lower_entry : Lower V → Option (List ℕ × V)
  lower_entry Nowhere = None
  lower_entry (Value len v) = Some (take len key, v.now)
  lower_entry (Below len top) =
      last_or None (entries_below (take len key) (siblings_at nodes (Some top)))

-- the siblings that are next
abbrev pub siblings_ahead : {V : Type 0} → LowerDescent V → Siblings V
siblings_ahead d = siblings_at d.arena.now.nodes.items d.next

-- the last entry before the key: the last of those ahead, or what is found
abbrev pub last_lower : {V : Type 0} → List ℕ → LowerDescent V → Option (List ℕ × V)
last_lower key d =
    last_or (lower_entry key d.arena.now.nodes.items d.lower)
    (prefixed (take d.len key) (before (drop d.len key) (entries (siblings_ahead d))))

-- so many bytes of the key are a valid key
abbrev pub IsFront : (List ℕ → Type 0) → List ℕ → ℕ → Type 0
IsFront item key len = (len ≤ length key) × IsValid item (take len key)

module _ (item : List ℕ → Type 0) {V : Type 0} (key : List ℕ) where
  -- what stands there is behind a front of the key
  abbrev pub IsLower : List (Node V) → Lower V → Type 0
  IsLower nodes Nowhere = Unit {0}
  IsLower nodes (Value len v) = IsFront item key len
  IsLower nodes (Below len top) = IsFront item key len × AreSiblingsAt item nodes (Some top)

  -- what is passed is a front of the key, and the siblings that are next keep the invariant
  pub record IsLowerDescent (d : LowerDescent V) : Type 0 where
    pub front : IsFront item key d.len
    pub next_siblings : AreSiblingsAt item d.arena.now.nodes.items d.next
    pub found : IsLower d.arena.now.nodes.items d.lower

  -- a step: the last entry stays the same, and fewer nodes are ahead
  pub record LowerMoves (d e : LowerDescent V) : Type 0 where
    pub descent : IsLowerDescent e
    pub same : last_lower key e ≡ last_lower key d
    pub less : steps_in (siblings_ahead e) < steps_in (siblings_ahead d)
    pub arena : e.arena ≡ d.arena

  -- siblings are passed: the last entry stays the same, and no more nodes are ahead
  pub record LowerPasses (d e : LowerDescent V) : Type 0 where
    pub descent : IsLowerDescent e
    pub same : last_lower key e ≡ last_lower key d
    pub few : steps_in (siblings_ahead e) ≤ steps_in (siblings_ahead d)
    pub arena : e.arena ≡ d.arena
