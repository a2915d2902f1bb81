-- Where a walk under a prefix begins, among the numbered nodes.
use Rattle.std.proofs.Common.{◌≡◌, ◌≢◌, ℕ, ◌<◌, ◌-◌, List, [], ◌++◌, length, take, Option, Some}
use Rattle.std.proofs.Common.{None, get_or, refl, sym, ◌∙◌, arith}
use Rattle.std.specs.Option.{option_map}
use Rattle.patricia_keys.specs.Keys.{IsKeyKind, IsValid}
use Rattle.patricia_model.specs.Prefixes.{under}
use Rattle.patricia_model.specs.Siblings.{IsCanonical}
use Rattle.patricia_store.specs.Internal.Nodes.{Node}
use Rattle.patricia_nodes.specs.declared.arena.NodeArena.{NodeArena}
use Rattle.patricia_nodes.specs.declared.arena.seek.LinkRef.{LinkRef}
use Rattle.patricia_nodes.specs.declared.arena.seek.Match.{Match}
use Rattle.patricia_nodes.specs.Internal.Plans.{IsWellFormed, siblings_of, plan_at, siblings_at}
use Rattle.patricia_nodes.proofs.SeekLemmas.{head_within}
use Rattle.patricia_nodes.specs.Internal.Places.{Placed, node_under, entries_below}
use Rattle.patricia_walks.specs.Internal.Positions.{Position, IsPosition, IsTop, state_of}
use Rattle.patricia_walks.specs.Internal.Fronts.{FrontPosition, IsFrontPosition, state_at}
use Rattle.patricia_walks.proofs.FrontLemmas.{front_end, front_start, nothing_left}
use Rattle.patricia_walks.proofs.PositionLemmas.{position_top, left_top}
use Rattle.patricia_model.proofs.WalkLemmas.{left_start}
use Rattle.patricia_model.specs.Internal.WalkStates.{entries_left}
use Rattle.patricia_nodes.proofs.UnderLemmas.{place_nothing}
use Rattle.patricia_walks.proofs.UnderLemmas.{place_top, place_entries, top_filled}
use Rattle.patricia_walks.specs.declared.held_tree.ValueSlot.{ValueSlot}
use Rattle.patricia_walks.specs.declared.held_tree.ValueSlot.TheVariants.{OfEmptyKey, OfNode}
use Rattle.patricia_walks.specs.Internal.Holders.{numbered_slots, holders}
use Rattle.patricia_walks.specs.Internal.CursorStates.{IsAtStart, StartsUnder}
use Rattle.patricia_walks.proofs.HolderLemmas.{Marked, marked, place_marked, siblings_marked}
use Rattle.patricia_walks.proofs.NumberLemmas.{marked_node, numbered_slots-length}
use Rattle.patricia_walks.proofs.NumberLemmas.{numbered_slots-read}

-- a walk that can begin in slots can begin in nodes that are the same
starts_at : (item : List ℕ → Type 0) (m : NodeArena ValueSlot) (nodes : List (Node ValueSlot))
    → m.nodes.items ≡ nodes → (front : List ℕ) (top : ℕ) → IsTop item m front top
    → IsAtStart item nodes front top
starts_at item m nodes same front top w = record { valid = w.valid; plan = rw (← same) w.plan; once = rw (← same) w.once; canonical = rw (← same) w.canonical }

-- and one that can begin in those nodes can begin in the slots
top_at : (item : List ℕ → Type 0) (m : NodeArena ValueSlot) (nodes : List (Node ValueSlot))
    → m.nodes.items ≡ nodes → (front : List ℕ) (top : ℕ) → IsAtStart item nodes front top
    → IsTop item m front top
top_at item m nodes same front top w = record { valid = w.valid; plan = rw same w.plan; once = rw same w.once; canonical = rw same w.canonical }

module _ (item : List ℕ → Type 0) (kind : IsKeyKind item) {V : Type 0} (s : NodeArena V)
    (m : NodeArena ValueSlot) (is : Marked s m) (whole : IsWellFormed s)
    (ok : IsCanonical item (siblings_of s)) (key : List ℕ) (link_ref : LinkRef) (at : Option ℕ)
    (rest : List ℕ) (matched : Match) (p : Placed item s key link_ref at rest matched) where
  -- the siblings of the numbered nodes keep the invariant
  m_siblings : IsCanonical item (siblings_of m)
  m_siblings = rw (is.nodes, is.root) ((siblings_marked s whole item).0 ok)

  -- the place of the key among them is the same
  m_place : Placed item m key link_ref at rest matched
  m_place = place_marked s whole item m is key link_ref at rest matched p

  -- where a node's keys all begin with the key, a walk can begin there
  pub starts_under : (front : ℕ) → front ≡ length key - length rest → (top : ℕ)
      → node_under rest matched ≡ Some top
      → StartsUnder item s key (record { front = front; top = top })
  starts_under front front_is top e = record {
    within = omega (arith, front_is);
    start = starts_at item m _ is.nodes (take front key) top (place_top item kind m is.whole m_siblings key link_ref at rest matched m_place front front_is top e);
    entries = rw (← is.nodes, ← is.root) (place_entries item kind m is.whole m_siblings key link_ref at rest matched m_place front front_is top e);
  }

  -- and where there is none, no entry is under the key
  pub starts_nowhere : IsValid item rest → node_under rest matched ≡ None
      → under key (holders None s) ≡ []
  starts_nowhere valid none = rw (← is.nodes, ← is.root) (place_nothing item kind m m_siblings key link_ref at rest matched m_place valid none)

-- the node at which a walk can begin is in the vector
pub start_within :
    (item : List ℕ → Type 0) {V : Type 0} (nodes : List (Node V)) (front : List ℕ) (top : ℕ)
    → IsAtStart item (numbered_slots 0 nodes) front top → top < length nodes
start_within item nodes front top w = omega (
  arith,
  head_within (numbered_slots 0 nodes) (Some top)
      (plan_at (numbered_slots 0 nodes) (Some top)) top w.plan refl,
  numbered_slots-length 0 nodes,
)

module _ (item : List ℕ → Type 0) {V : Type 0} (s : NodeArena V) (m : NodeArena ValueSlot)
    (is : Marked s m) (front : List ℕ) (top : ℕ) (n : Node V)
    (w : IsAtStart item (numbered_slots 0 s.nodes.items) front top)
    (reads : n ≡ get_or s.nodes.items top n)
    (p : Position ValueSlot) (nodes : p.nodes ≡ numbered_slots 0 s.nodes.items)
    (path : p.path ≡ front ++ n.label) (next : p.next ≡ n.child) (stack : p.stack ≡ []) where
  -- the walk over the numbered nodes can begin at that node
  m_top : IsTop item m front top
  m_top = top_at item m (numbered_slots 0 s.nodes.items) is.nodes front top w

  -- the numbered node is the one that was read, with its number for its value
  m_reads : marked_node top n ≡ get_or m.nodes.items top (marked_node top n)
  m_reads = rw is.nodes (numbered_slots-read s.nodes.items top n (start_within item s.nodes.items front top w) reads)

  -- a walk begins so
  pub start_position : IsPosition item p
  start_position = position_top item m front top (marked_node top n) m_top m_reads p (nodes ∙ sym is.nodes) path next stack

  -- all entries below the topmost node are left
  pub start_left : p.pending ≡ option_map (λ _. OfNode top) n.value
      → entries_left (state_of p) ≡ entries_below front (siblings_at (numbered_slots 0 s.nodes.items) (Some top))
  start_left pending = rw (← is.nodes) (left_top item m front top (marked_node top n) m_top m_reads p (nodes ∙ sym is.nodes) path pending next stack)

-- where a walk can begin, an entry is left
pub start_filled : (item : List ℕ → Type 0) (kind : IsKeyKind item) {V : Type 0} (s : NodeArena V)
    (m : NodeArena ValueSlot) → Marked s m → (front : List ℕ) (top : ℕ)
    → IsAtStart item (numbered_slots 0 s.nodes.items) front top
    → entries_below front (siblings_at (numbered_slots 0 s.nodes.items) (Some top)) ≢ []
start_filled item kind s m is front top w = rw (← is.nodes)
    (top_filled item kind m front top
    (top_at item m (numbered_slots 0 s.nodes.items) is.nodes front top w))

module _ {V : Type 0} (nodes : List (Node V)) (next : Option ℕ) where
  -- the place of a walk that has not begun
  abbrev fresh : Option ValueSlot → FrontPosition ValueSlot
  fresh pending = record { nodes = numbered_slots 0 nodes; path = []; front = 0; pending = pending; next = next; stack = [] }

  -- with no entry left it is over
  pub ended_position : (item : List ℕ → Type 0) (p : FrontPosition ValueSlot) → next ≡ None
      → p ≡ fresh None → IsFrontPosition item p
  ended_position item p none is = rw is (front_end item (fresh None) refl refl none refl)

  -- at the end nothing is left
  pub ended_left : (p : FrontPosition ValueSlot) → next ≡ None → p ≡ fresh None → entries_left (state_at p) ≡ []
  ended_left p none is = rw is (nothing_left (fresh None) refl none refl)

module _ (item : List ℕ → Type 0) {V : Type 0} (s : NodeArena V) (whole : IsWellFormed s)
    (p : FrontPosition ValueSlot) (pending : Option ValueSlot)
    (is : p ≡ fresh s.nodes.items s.root pending) where
  -- at the first entry nothing is passed
  pub first_position : IsCanonical item (siblings_of s) → IsFrontPosition item p
  first_position ok =
      let m = marked s whole in
      rw is (front_start item m.0 (fresh s.nodes.items s.root pending) m.1.whole
      (rw (m.1.nodes, m.1.root) ((siblings_marked s whole item).0 ok)) (sym m.1.nodes) refl
      refl (sym m.1.root) refl)

  -- at first all holders are left
  pub first_left : (value : Option V) → pending ≡ option_map (λ _. OfEmptyKey) value
      → entries_left (state_at p) ≡ holders value s
  first_left value due_is = rw (is, due_is) (left_start (state_at (fresh s.nodes.items s.root (option_map (λ _. OfEmptyKey) value))) refl refl)
