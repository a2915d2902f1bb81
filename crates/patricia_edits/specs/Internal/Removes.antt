-- What is left of nodes in one vector where a key is removed.
use Rattle.std.specs.Prelude.{◌≡◌, ◌≢◌, ◌⊎◌, ◌<◌, ℕ, List, ◌∷◌, ◌++◌, reverse, Option, Some, None}
use Rattle.std.specs.Prelude.{slice_get, Bool, true, false, IsTrue}
use Rattle.patricia_store.specs.Internal.Nodes.{Node}
use Rattle.patricia_nodes.specs.declared.arena.NodeArena.{NodeArena}
use Rattle.patricia_nodes.specs.declared.arena.seek.LinkRef.{LinkRef}
use Rattle.patricia_nodes.specs.declared.arena.seek.Match.TheVariants.{Exact}
use Rattle.patricia_model.specs.Siblings.{IsCanonical, keys_of}
use Rattle.patricia_model.specs.Points.{Joins}
use Rattle.patricia_model.specs.Internal.Removals.{others}
use Rattle.patricia_nodes.specs.Internal.Merges.{LeavesOther}
use Rattle.patricia_nodes.specs.Internal.Plans.{Plan, Cell, IsWellFormed, siblings_of, entries_of}
use Rattle.patricia_nodes.specs.Internal.Plans.{plan_at}
use Rattle.patricia_nodes.specs.Internal.Places.{Frame, Placed, fill}
use Rattle.patricia_nodes.specs.Internal.Trails.{KeepsAround}

module _ {V : Type 0} where
  -- the node has no children
  abbrev pub IsLeaf : NodeArena V → ℕ → Type 0
  IsLeaf s id = (n : Node V) → slice_get s.nodes.items id ≡ Some n → n.child ≡ None

  -- it has a value
  abbrev pub IsValued : NodeArena V → ℕ → Type 0
  IsValued s id = (n : Node V) → slice_get s.nodes.items id ≡ Some n → n.value ≢ None

  -- this is its value
  abbrev pub HasValue : NodeArena V → ℕ → Option V → Type 0
  HasValue s id value = (n : Node V) → slice_get s.nodes.items id ≡ Some n → value ≡ n.value

-- the key is gone: the entries are the others
pub record Removes (item : List ℕ → Type 0) {V : Type 0} (old new : NodeArena V) (key : List ℕ)
    : Type 0 where
  pub whole : IsWellFormed new
  pub canonical : IsCanonical item (siblings_of new)
  pub left_is : entries_of new ≡ others key (entries_of old)

-- the node is that of the key, and is linked so
abbrev pub IsPlaceOf : (List ℕ → Type 0) → {V : Type 0} → NodeArena V → List ℕ → LinkRef → ℕ
    → Type 0
IsPlaceOf item s key link_ref id =
    (rest : List ℕ) × Placed item s key link_ref (Some id) rest (Exact id)

-- nodes of a key kind, and the node of some key among them
pub record ReadyAt (item : List ℕ → Type 0) {V : Type 0} (s : NodeArena V) (link_ref : LinkRef)
    (id : ℕ) : Type 0 where
  pub whole : IsWellFormed s
  pub canonical : IsCanonical item (siblings_of s)
  pub key : List ℕ
  pub is_place : IsPlaceOf item s key link_ref id

-- so it is at each key whose node this is
abbrev pub RemovesAt : (List ℕ → Type 0) → {V : Type 0} → NodeArena V → NodeArena V → LinkRef → ℕ
    → Type 0
RemovesAt item old new link_ref id =
    (key : List ℕ) → IsPlaceOf item old key link_ref id → Removes item old new key

-- without such a key labels are joined
abbrev pub JoinsAt : (List ℕ → Type 0) → {V : Type 0} → NodeArena V → LinkRef → ℕ → Type 0
JoinsAt item s link_ref id =
    (key : List ℕ) → IsPlaceOf item s key link_ref id → Joins item (keys_of (entries_of s)) key

-- the node above a place has taken in its other child, and what stands above that node and beside
-- the way to it is as it was
pub record JoinsAbove {V : Type 0} (frames : List (Frame V)) (new : NodeArena V) : Type 0 where
  pub beside : Plan V
  pub upper : ℕ
  pub other : ℕ
  pub left : LeavesOther frames beside upper other
  pub fills :
      fill left.outer (Cell upper (left.label ++ left.inner) left.own left.below left.beside)
      ≡ plan_at new.nodes.items new.root

-- where the node above a place has not done so, what stands above the place and beside the way to
-- it is as it was
abbrev pub RestsAround : {V : Type 0} → List (Frame V) → NodeArena V → Bool → Type 0
RestsAround frames new false = KeepsAround frames new
RestsAround frames new true = JoinsAbove frames new

-- so it is at each key whose node this is, which was a leaf where the node above has done so
abbrev pub LeavesAboveAt : (List ℕ → Type 0) → {V : Type 0} → NodeArena V → NodeArena V → LinkRef
    → ℕ → Bool → Type 0
LeavesAboveAt item old new link_ref id joined =
    (key : List ℕ) → (p : IsPlaceOf item old key link_ref id)
    → RestsAround p.1.frames new joined × (IsTrue joined → IsLeaf old id)

-- what stands above the place and beside the way to it is as it was, or its node was a leaf without
-- which the node above has taken in its other child
abbrev pub KeepsAbove : {V : Type 0} → NodeArena V → NodeArena V → ℕ → List (Frame V) → Type 0
KeepsAbove old new id frames =
    KeepsAround frames new ⊎ (IsLeaf old id × JoinsAbove frames new)

-- so it is at each key whose node this is
abbrev pub KeepsAboveAt : (List ℕ → Type 0) → {V : Type 0} → NodeArena V → NodeArena V → LinkRef → ℕ
    → Type 0
KeepsAboveAt item old new link_ref id =
    (key : List ℕ) → (p : IsPlaceOf item old key link_ref id) → KeepsAbove old new id p.1.frames

-- the trail was cut, and the path to its last place ends before n bytes
pub record IsCutBefore (n : ℕ) (old new : List (LinkRef × ℕ)) : Type 0 where
  pub cut : List (LinkRef × ℕ)
  pub is : reverse old ≡ cut ++ reverse new
  pub before : (e : LinkRef × ℕ) (es : List (LinkRef × ℕ)) → reverse new ≡ e ∷ es → e.1 < n
