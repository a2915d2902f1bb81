-- A removal where the node of the key is a leaf.
use Rattle.std.proofs.Common.{◌≡◌, ℕ, ◌<◌, ◌≤◌, List, length, Option, Some}
use Rattle.std.proofs.Common.{None, get_or, slice_get, ap, ◌∙◌}
use Rattle.std.proofs.lemmas.Option.{slice_get_within}
use Rattle.patricia_store.specs.Internal.Nodes.{Node, Nodes}
use Rattle.patricia_nodes.specs.declared.arena.NodeArena.{NodeArena}
use Rattle.patricia_nodes.specs.declared.arena.seek.LinkRef.{LinkRef}
use Rattle.patricia_nodes.specs.declared.arena.seek.Match.{Match}
use Rattle.patricia_nodes.specs.declared.arena.seek.Match.TheVariants.{Exact}
use Rattle.patricia_model.specs.Siblings.{keys_of}
use Rattle.patricia_model.specs.Points.{Joins}
use Rattle.patricia_nodes.specs.Internal.Plans.{Nil, Cell, linked, head}
use Rattle.patricia_nodes.specs.Internal.Plans.{entries_of}
use Rattle.patricia_nodes.specs.Internal.Merges.{Unlinks, Absorbs, HasLeafAt, HasLone}
use Rattle.patricia_nodes.specs.Internal.Merges.{LeavesOther, LeftAlone, HasNodeAt}
use Rattle.patricia_nodes.specs.Internal.NodeVecs.{HasJoinedRoom}
use Rattle.patricia_nodes.specs.Internal.Trails.{KeepsAround}
use Rattle.patricia_edits.specs.Internal.Removes.{IsLeaf, IsValued, HasValue, JoinsAbove, Removes}
use Rattle.patricia_nodes.proofs.AloneLemmas.{plan_end}
use Rattle.patricia_nodes.proofs.FillLemmas.{stands-within}
use Rattle.patricia_nodes.proofs.SeekLemmas.{Sought, Opened}
use Rattle.patricia_edits.proofs.RemoveLemmas.{there, stands_at, here_is, has_leaf, removes_leaf}
use Rattle.patricia_edits.proofs.RemoveLemmas.{labels_left, joins_left, mid_lone, room_kept}
use Rattle.patricia_edits.proofs.RemoveLemmas.{removes_left, node_here, keeps_leaf, keeps_left}

-- a node that is there has the value that the plan says
value_is : {V : Type 0} (nodes : List (Node V)) (id : ℕ) (n : Node V) (l : List ℕ) (v : Option V)
    (c d : Option ℕ) → slice_get nodes id ≡ Some n → slice_get nodes id ≡ Some (linked l v c d)
    → v ≡ n.value
value_is nodes id n l v c d there is = let same : linked l v c d ≡ n = cc in ap (λ (m : Node _). m.value) same

-- a leaf with a value at the place of a key
module _ {item : List ℕ → Type 0} {V : Type 0} {s : NodeArena V} {key : List ℕ}
    {link_ref : LinkRef} {at : Option ℕ} {rest : List ℕ} {matched : Match}
    (sought : Sought item s key link_ref at rest matched) {id : ℕ} (is : matched ≡ Exact id) (leaf : IsLeaf s id) (valued : IsValued s id) where
  open sought use {kind, whole, canonical as ok, place as p}

  -- the node at the place
  abbrev pub r : Node V
  r = (node_here sought is).0

  -- it is read from the vector
  abbrev pub reads : r ≡ get_or s.nodes.items id r
  reads = (node_here sought is).1

  -- its child and its sibling
  abbrev pub around : Opened s.nodes.items p.focus id r
  around = there sought is reads

  -- it is what the vector has at its number
  pub at_id : slice_get s.nodes.items id ≡ Some r
  at_id = here_is sought is reads

  -- it has no child
  pub no_child : around.child ≡ Nil
  no_child = plan_end s.nodes.items r.child around.child around.child_plan (leaf r at_id)

  -- it has a value
  pub has_value : r.value ≡ None → ⊥
  has_value = valued r at_id

  -- it stands at its link, in siblings that keep the invariant
  pub leaf_stands : HasNodeAt item s link_ref id
  leaf_stands = (p.frames, r.label, r.value, around.child, around.sibling, stands_at sought is reads)

  -- it stands there as a leaf
  pub leaf_at : HasLeafAt s link_ref id
  leaf_at = has_leaf sought is reads has_value no_child

  -- its value is what is taken
  pub leaf_value : (new : NodeArena V) (taken : Option V) → Unlinks s new link_ref id taken
      → HasValue s id taken
  leaf_value new taken unlinks n there =
      (unlinks leaf_at.0 leaf_at.1 leaf_at.2 leaf_at.3 leaf_at.4 leaf_at.5).1
      ∙ value_is s.nodes.items id n leaf_at.1 leaf_at.2 None (head leaf_at.3) there
      (stands-within s.nodes.items leaf_at.0 (Cell id leaf_at.1 leaf_at.2 Nil leaf_at.3)
      leaf_at.5.1.plan_ok.stands).0

  -- what is around it stays
  pub leaf_kept : (new : NodeArena V) (taken : Option V) → Unlinks s new link_ref id taken
      → KeepsAround p.frames new
  leaf_kept = keeps_leaf sought is reads has_value no_child

  -- the node above keeps its place
  pub leaf_spared : (new : NodeArena V) (taken : Option V) → LeftAlone item s link_ref id None
      → Unlinks s new link_ref id taken → Removes item s new key
  leaf_spared new taken alone unlinks =
      removes_leaf sought is reads has_value no_child new taken unlinks
      (alone p.frames r.label r.value around.child around.sibling (stands_at sought is reads))

  -- or takes in the other child
  module _ (u o : ℕ) (alone : LeftAlone item s link_ref id (Some (u, o))) where
    -- the node above, and its other child
    abbrev pub left : LeavesOther p.frames around.sibling u o
    left = alone p.frames r.label r.value around.child around.sibling (stands_at sought is reads)

    abbrev labels :
        ((n : Node V) × (slice_get s.nodes.items u ≡ Some n) × (n.label ≡ left.label)) ×
        ((m : Node V) × (slice_get s.nodes.items o ≡ Some m) × (m.label ≡ left.inner))
    labels = labels_left sought is reads has_value no_child u o left

    -- both are in the vector
    pub both_within : (u < length s.nodes.items) × (o < length s.nodes.items)
    both_within = (slice_get_within s.nodes.items u _ labels.0.1, slice_get_within s.nodes.items o _ labels.1.1)

    -- without the key their labels are joined
    pub leaf_joins : Joins item (keys_of (entries_of s)) key
    leaf_joins = joins_left sought is reads has_value no_child u o left

    module _ (mid : NodeArena V) (taken : Option V) (unlinks : Unlinks s mid link_ref id taken) where
      -- once the leaf is unlinked, the other child is the only one
      pub leaf_lone : HasLone mid u o
      leaf_lone = mid_lone sought is reads has_value no_child u o left mid taken unlinks

      -- there is room for their labels as one, where it was made before
      pub leaf_room : (nodes : Nodes V) → nodes.items ≡ s.nodes.items
          → HasJoinedRoom nodes nodes.room u o → nodes.room ≤ mid.nodes.room
          → HasJoinedRoom mid.nodes mid.nodes.room u o
      leaf_room = room_kept sought is reads has_value no_child u o left mid taken unlinks

      -- once the two are merged, what stands above them is as it was
      pub left_kept : (new : NodeArena V) (none : Option V) → Absorbs mid new u o none
          → JoinsAbove p.frames new
      left_kept = keeps_left sought is reads has_value no_child u o left mid taken unlinks

      -- merging the two removes the key
      pub leaf_left : (new : NodeArena V) (none : Option V) → Absorbs mid new u o none
          → Removes item s new key
      leaf_left new none absorbs = removes_left sought is reads has_value no_child u o left mid taken unlinks new none absorbs
