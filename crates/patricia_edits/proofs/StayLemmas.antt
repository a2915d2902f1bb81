-- Nodes that stay as they are, where room was made.
use Rattle.std.proofs.Common.{◌≡◌, ◌≤◌, ℕ, Option, Some, slice_get, refl, sym, ap, ◌∙◌, arith}
use Rattle.std.proofs.Common.{length}
use Rattle.std.proofs.lemmas.Option.{get_or_from_slice_get}
use Rattle.patricia_store.specs.Internal.Labels.{joined_room}
use Rattle.patricia_store.specs.Internal.Nodes.{Node, Nodes}
use Rattle.patricia_nodes.specs.declared.arena.NodeArena.{NodeArena}
use Rattle.patricia_nodes.specs.declared.arena.seek.LinkRef.{LinkRef}
use Rattle.patricia_nodes.specs.Internal.Merges.{HasLeafAt, Unlinks, HasLone, Absorbs}
use Rattle.patricia_nodes.specs.Internal.NodeVecs.{HasJoinedRoom}
use Rattle.patricia_nodes.specs.Internal.Plans.{Plan, Holds, IsWellFormed, siblings_of}
use Rattle.patricia_nodes.specs.Internal.Writes.{Stays}
use Rattle.patricia_nodes.proofs.PlanLemmas.{node_is}

-- where nothing was done, all stays
pub all_stays : {V : Type 0} (s : NodeArena V) → Stays s s
all_stays s = record {
  nodes_is = refl;
  root_is = refl;
  free_is = refl;
  capacity = omega arith;
  room = omega arith;
}

module _ {V : Type 0} {s new : NodeArena V} (stays : Stays s new) where
  -- nodes that stay stand for the siblings that they did
  pub siblings_stay : siblings_of new ≡ siblings_of s
  siblings_stay = rw (stays.nodes_is, stays.root_is) refl

  -- and none of them is lost
  pub whole_stays : IsWellFormed s → IsWellFormed new
  whole_stays whole = rw (stays.nodes_is, stays.root_is, stays.free_is) whole

  -- they are the plan that they were
  pub holds_stays : {p : Plan V} → Holds s p → Holds new p
  holds_stays holds = rw (stays.nodes_is, stays.root_is, stays.free_is) holds

  -- and were the plan that they are
  pub held_before : {p : Plan V} → Holds new p → Holds s p
  held_before holds = rw (← stays.nodes_is, ← stays.root_is, ← stays.free_is) holds

  -- a leaf is one still
  pub leaf_stays : {link_ref : LinkRef} {id : ℕ} → HasLeafAt s link_ref id → HasLeafAt new link_ref id
  leaf_stays leaf = (leaf.0, leaf.1, leaf.2, leaf.3, leaf.4, holds_stays leaf.5)

  -- and so is an only child
  pub lone_stays : {upper lower : ℕ} → HasLone s upper lower → HasLone new upper lower
  lone_stays lone = (lone.0, lone.1, lone.2, lone.3, lone.4, lone.5, lone.6, holds_stays lone.7)

  -- what is unlinked then was unlinked from the nodes before
  pub unlinks_stay : (after : NodeArena V) (link_ref : LinkRef) (id : ℕ) (taken : Option V)
      → Unlinks new after link_ref id taken → Unlinks s after link_ref id taken
  unlinks_stay after link_ref id taken unlinks frames label value sibling at holds = unlinks frames label value sibling at (holds_stays holds)

  -- and what is merged was merged there
  pub absorbs_stay : (after : NodeArena V) (upper lower : ℕ) (taken : Option V)
      → Absorbs new after upper lower taken → Absorbs s after upper lower taken
  absorbs_stay after upper lower taken absorbs frames label value inner own below sibling holds =
      absorbs frames label value inner own below sibling (holds_stays holds)

-- room for the labels of two nodes as one is there for nodes of the same labels
pub joined_as : {V : Type 0} (nodes mid : Nodes V) (upper lower : ℕ) {room more : ℕ}
    (a b c d : Node V) → slice_get nodes.items upper ≡ Some a → slice_get nodes.items lower ≡ Some b
    → slice_get mid.items upper ≡ Some c → slice_get mid.items lower ≡ Some d
    → a.label ≡ c.label → b.label ≡ d.label → HasJoinedRoom nodes room upper lower → room ≤ more
    → HasJoinedRoom mid more upper lower
joined_as nodes mid upper lower {room} {more} a b c d at_a at_b at_c at_d same_upper same_lower fits wider n reads_n m reads_m =
    let first : a.label ≡ n.label = same_upper ∙ ap (λ (x : Node _). x.label) (sym (node_is mid.items upper n c at_c reads_n)) in
    let second : b.label ≡ m.label = same_lower ∙ ap (λ (x : Node _). x.label) (sym (node_is mid.items lower m d at_d reads_m)) in
    let fit : joined_room (length a.label) (length b.label) ≤ room =
    fits a (sym (get_or_from_slice_get nodes.items upper a a at_a)) b (sym (get_or_from_slice_get nodes.items lower b b at_b)) in
    let size : joined_room (length a.label) (length b.label) ≡ joined_room (length n.label) (length m.label) = rw (first, second) refl in
    omega (arith, fit, size, wider)
