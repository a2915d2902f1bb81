-- What writes leave of nodes in one vector.
use Rattle.std.specs.Prelude.{◌≡◌, ℕ, ◌+◌, ◌<◌, ◌≤◌, List, [], length, Option, Some, None}
use Rattle.std.specs.Prelude.{slice_get, slice_set, IfSome}
use Rattle.std.specs.FinMap.{put}
use Rattle.patricia_keys.specs.Keys.{key_cmp}
use Rattle.patricia_store.specs.Internal.Nodes.{Node}
use Rattle.patricia_nodes.specs.declared.arena.NodeArena.{NodeArena}
use Rattle.patricia_nodes.specs.declared.arena.seek.SeekResult.{SeekResult}
use Rattle.patricia_nodes.specs.declared.arena.seek.LinkRef.{LinkRef}
use Rattle.patricia_nodes.specs.declared.arena.seek.LinkRef.TheVariants.{Root, Child, Sibling}
use Rattle.patricia_model.specs.Siblings.{IsCanonical}
use Rattle.patricia_nodes.specs.Internal.Plans.{Plan, linked, first, IsChain, Holds, IsWellFormed}
use Rattle.patricia_nodes.specs.Internal.Plans.{siblings_of, entries_of}
use Rattle.patricia_nodes.specs.Internal.Places.{Frame, fill, link_ref_of, IsSeekResult}

-- the link is none, or leads to one of so many nodes
abbrev pub IsWithin : Option ℕ → ℕ → Type 0
IsWithin link n = IfSome link (λ id. id < n)

-- the node of the link is in the vector
abbrev pub LinkRefWithin : LinkRef → ℕ → Type 0
LinkRefWithin Root n = Unit {0}
LinkRefWithin (Child id) n = id < n
LinkRefWithin (Sibling id above) n = id < n

module _ {V : Type 0} where
  -- these are the free nodes
  abbrev pub IsFree : List (Node V) → Option ℕ → List ℕ → Type 0
  IsFree nodes free spare = IsChain nodes spare × (free ≡ first spare)

  -- at least so many nodes are free
  abbrev pub FreeAtLeast : NodeArena V → ℕ → Type 0
  FreeAtLeast s n = (spare : List ℕ) × IsFree s.nodes.items s.free spare × (n ≤ length spare)

  -- there is room for so many nodes more, in free ones or behind the last
  abbrev pub RoomFor : List (Node V) → Option ℕ → ℕ → ℕ → Type 0
  RoomFor nodes free capacity n =
      (spare : List ℕ) × IsFree nodes free spare × (n + length nodes ≤ length spare + capacity)

  -- there is room for so many nodes more, and so many bytes of labels
  pub record HasRoomFor (s : NodeArena V) (n bytes : ℕ) : Type 0 where
    pub nodes_fit : RoomFor s.nodes.items s.free s.nodes.capacity n
    pub bytes_fit : bytes ≤ s.nodes.room

  -- where there was room for so many nodes, there is, and the bytes have no less
  pub record KeepsRoomFor (old new : NodeArena V) (n : ℕ) : Type 0 where
    pub nodes_fit : RoomFor old.nodes.items old.free old.nodes.capacity n
        → RoomFor new.nodes.items new.free new.nodes.capacity n
    pub bytes_fit : old.nodes.room ≤ new.nodes.room

  -- the vector has grown only where no node was free, and none is free then
  pub record Reuses (old new : NodeArena V) : Type 0 where
    pub grown : length old.nodes.items < length new.nodes.items → new.free ≡ None
    pub none : old.free ≡ None → new.free ≡ None

  -- nothing was changed
  pub record Stays (old new : NodeArena V) : Type 0 where
    pub nodes_is : new.nodes.items ≡ old.nodes.items
    pub root_is : new.root ≡ old.root
    pub free_is : new.free ≡ old.free
    pub capacity : old.nodes.capacity ≤ new.nodes.capacity
    pub room : old.nodes.room ≤ new.nodes.room

  -- the node was removed, and its number is the first that is free
  pub record Frees (old new : NodeArena V) (id : ℕ) (n : Node V) : Type 0 where
    pub taken : slice_get old.nodes.items id ≡ Some n
    pub nodes_is : new.nodes.items ≡ slice_set old.nodes.items id (linked [] None None old.free)
    pub root_is : new.root ≡ old.root
    pub free_is : new.free ≡ Some id

  -- the number at the link is another
  abbrev pub Relinks : NodeArena V → NodeArena V → LinkRef → Option ℕ → Type 0
  Relinks old new Root to = (new.nodes.items ≡ old.nodes.items) × (new.root ≡ to)
  Relinks old new (Child id) to =
      ((n : Node V) → slice_get old.nodes.items id ≡ Some n
      → new.nodes.items ≡ slice_set old.nodes.items id (record n { child = to }))
      × (new.root ≡ old.root)
  Relinks old new (Sibling id above) to =
      ((n : Node V) → slice_get old.nodes.items id ≡ Some n
      → new.nodes.items ≡ slice_set old.nodes.items id (record n { sibling = to }))
      × (new.root ≡ old.root)

  -- the link is that to some place
  abbrev pub HasLinkRef : NodeArena V → LinkRef → Type 0
  HasLinkRef s link_ref =
      (frames : List (Frame V)) × (q : Plan V) × (link_ref ≡ link_ref_of frames)
      × Holds s (fill frames q)

-- nodes of a key kind, and the place of some key among them
pub record Ready (item : List ℕ → Type 0) {V Q : Type 0} (key_of : Q → List ℕ) (s : NodeArena V)
    (place : SeekResult Q) : Type 0 where
  pub whole : IsWellFormed s
  pub canonical : IsCanonical item (siblings_of s)
  pub key : List ℕ
  pub is_place : IsSeekResult item key_of s key place

-- the entries are those before, with this value at the key
abbrev pub IsPut : {V : Type 0} → NodeArena V → NodeArena V → List ℕ → V → Type 0
IsPut old new key x = entries_of new ≡ put key_cmp key x (entries_of old)

-- the value was inserted at the key
pub record Puts (item : List ℕ → Type 0) {V : Type 0} (old new : NodeArena V) (key : List ℕ) (x : V)
    : Type 0 where
  pub whole : IsWellFormed new
  pub canonical : IsCanonical item (siblings_of new)
  pub put_is : IsPut old new key x
