-- How far a walk over nodes in one vector has come.
use Rattle.std.specs.Prelude.{◌≡◌, ℕ, ◌+◌, ◌<◌, ◌≤◌, List, [], ◌∷◌, ◌++◌, Option, Some, None, map}
use Rattle.std.specs.Prelude.{length, drop}
use Rattle.patricia_keys.specs.Keys.{IsValid}
use Rattle.patricia_model.specs.Siblings.{Siblings, IsCanonical, IsBeforeSiblings}
use Rattle.patricia_model.specs.Prefixes.{under, outside}
use Rattle.patricia_model.specs.Internal.WalkStates.{WalkState, IsWalkState, IsStep, IsWithinAll}
use Rattle.patricia_store.specs.Internal.Nodes.{Node}
use Rattle.patricia_nodes.specs.declared.arena.NodeArena.{NodeArena}
use Rattle.patricia_nodes.specs.Internal.Plans.{siblings_at, count, plan_at, IsPlan}

-- the siblings that wait, and more behind so many of the bytes, where there are any
abbrev pub with_siblings : List (ℕ × Option ℕ) → ℕ → Option ℕ → List (ℕ × Option ℕ)
with_siblings waiting front None = waiting
with_siblings waiting front (Some id) = waiting ++ (front, Some id) ∷ []

-- a place in a walk: the nodes, the bytes that are passed, the value that is due there, the number
-- of the siblings behind them, and those of the siblings that wait, each behind so many of the
-- bytes
pub record Position (V : Type 0) : Type 0 where
  pub nodes : List (Node V)
  pub path : List ℕ
  pub pending : Option V
  pub next : Option ℕ
  pub stack : List (ℕ × Option ℕ)

module _ {V : Type 0} where
  -- the siblings that wait
  abbrev pub siblings_waiting : List (Node V) → List (ℕ × Option ℕ) → List (ℕ × Siblings V)
  siblings_waiting nodes stack = map (λ f. (f.0, siblings_at nodes f.1)) stack

  -- the same place with the siblings themselves
  abbrev pub state_of : Position V → WalkState V
  state_of p = record {
    path = p.path;
    pending = p.pending;
    siblings = siblings_at p.nodes p.next;
    stack = siblings_waiting p.nodes p.stack;
  }

  -- there is a plan from each of the numbers on
  abbrev pub AllPlans : List (Node V) → List (ℕ × Option ℕ) → Type 0
  AllPlans nodes [] = Unit {0}
  AllPlans nodes (f ∷ fs) = IsPlan nodes f.1 (plan_at nodes f.1) × AllPlans nodes fs

  -- how often a number stands in these plans
  abbrev pub count_all : List (Node V) → List (ℕ × Option ℕ) → ℕ → ℕ
  count_all nodes [] at = 0
  count_all nodes (f ∷ fs) at = count (plan_at nodes f.1) at + count_all nodes fs at

  -- the siblings that are next and those that wait stand in the nodes, and no node stands twice
  pub record Stand (p : Position V) : Type 0 where
    pub next_plan : IsPlan p.nodes p.next (plan_at p.nodes p.next)
    pub plans : AllPlans p.nodes p.stack
    pub once : (at : ℕ) → count (plan_at p.nodes p.next) at + count_all p.nodes p.stack at ≤ 1

  -- what is left is without the entries that begin with these bytes, which came first
  pub record HasPassed (p : List ℕ) (before later : List (List ℕ × V)) : Type 0 where
    pub left : later ≡ outside p before
    pub split : before ≡ under p before ++ later

module _ (item : List ℕ → Type 0) {V : Type 0} where
  -- a walk can begin at this node, behind these bytes
  pub record IsTop (arena : NodeArena V) (front : List ℕ) (top : ℕ) : Type 0 where
    pub valid : IsValid item front
    pub plan : IsPlan arena.nodes.items (Some top) (plan_at arena.nodes.items (Some top))
    pub once : (at : ℕ) → count (plan_at arena.nodes.items (Some top)) at ≤ 1
    pub canonical : IsCanonical item (siblings_at arena.nodes.items (Some top))

  -- siblings that wait are behind fewer of the bytes than those above them, and not behind all of
  -- the bytes, and their first items come after the item that goes on behind these
  abbrev pub WaitsAfter : List ℕ → List (ℕ × Siblings V) → Type 0
  WaitsAfter path [] = Unit {0}
  WaitsAfter path (f ∷ fs) = record {
    short : f.0 < length path;
    apart : IsWithinAll (f.0 + 1) fs;
    after : IsBeforeSiblings item (drop f.0 path) f.1;
    rest : WaitsAfter path fs;
  }

  -- the siblings stand, they are those of a walk, and those that wait come after the bytes
  pub record IsPosition (p : Position V) : Type 0 where
    pub stand : Stand p
    pub state : IsWalkState item (state_of p)
    pub after : WaitsAfter p.path (siblings_waiting p.nodes p.stack)

  -- a step of the walk
  pub record AdvancesTo (p q : Position V) : Type 0 where
    pub stand : Stand q
    pub step : IsStep item (state_of p) (state_of q)
    pub after : WaitsAfter q.path (siblings_waiting q.nodes q.stack)
