-- What is left of nodes in one vector where a value is inserted.
use Rattle.std.specs.Prelude.{◌≡◌, ◌≢◌, ◌⊎◌, ℕ, ◌+◌, suc, List, length, take, drop, Option}
use Rattle.std.specs.Prelude.{Some, None, slice_get}
use Rattle.patricia_store.specs.Internal.Labels.{label_room, cut_room}
use Rattle.std.specs.FinMap.{find}
use Rattle.std.specs.declared.cmp.Ordering.{Ordering}
use Rattle.std.specs.declared.cmp.Ordering.TheVariants.{Less}
use Rattle.patricia_store.specs.Internal.Nodes.{Node}
use Rattle.patricia_nodes.specs.declared.arena.NodeArena.{NodeArena}
use Rattle.patricia_nodes.specs.declared.arena.seek.SeekResult.{SeekResult}
use Rattle.patricia_nodes.specs.declared.arena.seek.LinkRef.{LinkRef}
use Rattle.patricia_nodes.specs.declared.arena.seek.LinkRef.TheVariants.{Child, Sibling}
use Rattle.patricia_keys.specs.Keys.{key_cmp}
use Rattle.patricia_nodes.specs.Internal.Plans.{Plan, Nil, Cell, linked, one, below, times, first}
use Rattle.patricia_nodes.specs.Internal.Plans.{head, IsChain, Holds, entries_of}
use Rattle.patricia_nodes.specs.Internal.Places.{Frame, fill, link_ref_of, IsSeekResult}
use Rattle.patricia_nodes.specs.Internal.Trails.{KeepsAround}
use Rattle.patricia_nodes.specs.Internal.Writes.{IsFree, HasRoomFor, Puts}

module _ {V : Type 0} where
  -- a node was made of a free one, or behind the last
  pub record Makes (old new : NodeArena V) (spare : List ℕ) (n : Node V) (id : ℕ) : Type 0 where
    pub left : List ℕ
    pub there : slice_get new.nodes.items id ≡ Some n
    pub others : (at : ℕ) → at ≢ id → slice_get new.nodes.items at ≡ slice_get old.nodes.items at
    pub root_is : new.root ≡ old.root
    pub free_is : new.free ≡ first left
    pub chain : IsChain old.nodes.items left
    pub counted : (at : ℕ) → one id at + times left at + below (length old.nodes.items) at
        ≡ times spare at + below (length new.nodes.items) at
    pub longer : length spare + length new.nodes.items ≡ suc (length left + length old.nodes.items)

  abbrev pub MakesNode : NodeArena V → NodeArena V → Node V → ℕ → Type 0
  MakesNode old new n id =
      (spare : List ℕ) → IsFree old.nodes.items old.free spare → Makes old new spare n id

  -- the plan is all below a node, or all beside it
  abbrev pub IsBelowOrBeside : Plan V → Plan V → Plan V → Type 0
  IsBelowOrBeside child sibling q =
      ((child ≡ q) × (sibling ≡ Nil)) ⊎ ((child ≡ Nil) × (sibling ≡ q))

  -- the nodes are this plan, with room for one less, and for so many bytes less
  abbrev pub Grows : NodeArena V → NodeArena V → ℕ → Plan V → Type 0
  Grows old new bytes plan =
      Holds new plan
      × ((n left : ℕ) → HasRoomFor old (suc n) (bytes + left) → HasRoomFor new n left)

  -- there is room for two nodes, and for so many bytes of a key beside a label that is cut
  abbrev pub HasRoomToPut : NodeArena V → List ℕ → Type 0
  HasRoomToPut s rest = (n : ℕ) → HasRoomFor s 2 (label_room (length rest) + cut_room n)

  -- a new node stands in the place at the link, with what was there below or beside it
  abbrev pub AddsNode : NodeArena V → NodeArena V → LinkRef → Node V → ℕ → Type 0
  AddsNode old new link_ref n id =
      (frames : List (Frame V)) (child sibling q : Plan V) → link_ref ≡ link_ref_of frames
      → IsBelowOrBeside child sibling q → n.child ≡ head child → n.sibling ≡ head sibling
      → Holds old (fill frames q)
      → Grows old new (label_room (length n.label))
      (fill frames (Cell id n.label n.value child sibling))

  -- a new leaf stands below the upper node: before the lower one where the order is less, and
  -- else behind it
  abbrev pub AddsLeaf : NodeArena V → NodeArena V → ℕ → ℕ → Ordering → List ℕ → V → ℕ → Type 0
  AddsLeaf old new upper lower order label x id =
      (order ≡ Less → AddsNode old new (Child upper) (linked label (Some x) None (Some lower)) id)
      × (order ≢ Less
      → AddsNode old new (Sibling lower (Some upper)) (linked label (Some x) None None) id)

  -- the number is that of a node of the plan
  abbrev pub HasCell : NodeArena V → ℕ → Type 0
  HasCell s id =
      (frames : List (Frame V)) × (label : List ℕ) × (value : Option V) × (child : Plan V)
      × (sibling : Plan V) × Holds s (fill frames (Cell id label value child sibling))

  -- the node keeps n bytes and takes this value; the rest of its label, its own value and children
  -- are in a new node below it
  abbrev pub SplitsNode : NodeArena V → NodeArena V → ℕ → ℕ → Option V → ℕ → Type 0
  SplitsNode old new id n w k =
      (frames : List (Frame V)) (label : List ℕ) (value : Option V) (child sibling : Plan V)
      → Holds old (fill frames (Cell id label value child sibling))
      → Grows old new (cut_room (length label))
      (fill frames (Cell id (take n label) w (Cell k (drop n label) value child Nil) sibling))

-- the value that is found at each key whose place this is
abbrev pub FindsAt : (List ℕ → Type 0) → {V Q : Type 0} → (Q → List ℕ) → NodeArena V → SeekResult Q
    → Option V → Type 0
FindsAt item key_of s place found =
    (key : List ℕ) → IsSeekResult item key_of s key place → found ≡ find key_cmp key (entries_of s)

-- the value was inserted at each key whose place this is
abbrev pub PutsAt : (List ℕ → Type 0) → {V Q : Type 0} → (Q → List ℕ) → NodeArena V → NodeArena V
    → SeekResult Q → V → Type 0
PutsAt item key_of old new place x =
    (key : List ℕ) → (p : IsSeekResult item key_of old key place)
    → Puts item old new key x × KeepsAround p.frames new
