-- What a write through a loan leaves of a tree that is held, and of a cursor's state.
use Rattle.std.proofs.Common.{◌≡◌, ◌≢◌, ℕ, ◌<◌, false, List, ◌++◌, length, set, Option, Some, None}
use Rattle.std.proofs.Common.{slice_get, refl, sym, ap, subst, ◌∙◌}
use Rattle.std.specs.FinMap as map
use Rattle.std.specs.FinMap.{from_sorted, get-from_sorted}
use Rattle.std.proofs.lemmas.Option.{slice_get_within}
use Rattle.patricia_keys.specs.Keys.{IsKeyKind, key_cmp}
use Rattle.patricia_model.specs.Cursors.{written, last_value}
use Rattle.patricia_model.specs.Internal.CursorSteps.{written_at, value_at}
use Rattle.patricia_model.specs.Siblings.{own}
use Rattle.patricia_model.specs.Trees.{IsTree, map_of}
use Rattle.patricia_model.proofs.TreeLemmas.{from_sorted-put, tree_sorted}
use Rattle.patricia_store.specs.Internal.Nodes.{Node}
use Rattle.patricia_nodes.specs.Internal.Plans.{IsWellFormed, siblings_of, entries_of}
use Rattle.patricia_model.specs.Internal.WalkStates.{entries_left}
use Rattle.patricia_walks.specs.Internal.Fronts.{IsFrontPosition, state_at}
use Rattle.patricia_nodes.specs.Internal.Loans.{with_value}
use Rattle.patricia_nodes.specs.Internal.NodeVecs.{value_in, with_valued}
use Rattle.patricia_walks.specs.declared.held_tree.ValueSlot.{ValueSlot}
use Rattle.patricia_walks.specs.declared.held_tree.ValueSlot.TheVariants.{OfEmptyKey, OfNode}
use Rattle.patricia_walks.specs.declared.cursor_state.Start.{Start}
use Rattle.patricia_walks.specs.declared.cursor_state.CursorState.{CursorState}
use Rattle.patricia_walks.specs.declared.held_tree.HeldTree.{HeldTree}
use Rattle.patricia_walks.specs.Internal.Holders.{numbered_slots, holders, held, is_same, key_at}
use Rattle.patricia_walks.specs.Internal.Holders.{ReadsHeld}
use Rattle.patricia_walks.specs.Internal.HeldTrees.{key_of, last_key, entries_to_lend, standing, with_held}
use Rattle.patricia_walks.specs.Internal.HeldTrees.{held_last, IsHeld}
use Rattle.patricia_walks.specs.Internal.CursorStates.{position_of, IsCursorState, IsPrefixCursor}
use Rattle.patricia_walks.proofs.HolderLemmas.{holders_read, holders_once}
use Rattle.patricia_walks.proofs.HolderWriteLemmas.{write_numbered, write_holders, write_whole}
use Rattle.patricia_walks.proofs.HolderWriteLemmas.{write_tree, write_held, write_kept}
use Rattle.patricia_walks.proofs.ReadLemmas.{find_read, key_value, put_read}

-- a node that has a value is there
node_in : {V : Type 0} (o : Option (Node V)) (v : V) → value_in o ≡ Some v
    → (n : Node V) × (o ≡ Some n) × (n.value ≡ Some v)
node_in None v e = absurd (cc)
node_in (Some n) v e = (n, refl, e)

module _ (item : List ℕ → Type 0) {V : Type 0} (t : HeldTree V) (w : IsHeld item t) where
  -- what was lent last holds a value
  holds : (h : ValueSlot) → t.last ≡ Some h
      → (v : V) × (held t.parts.value t.parts.arena.nodes.items h ≡ Some v)
  holds h is = key_value (held t.parts.value t.parts.arena.nodes.items) h (holders t.parts.value t.parts.arena)
      (own t.parts.value ++ entries_of t.parts.arena) (holders_read t.parts.arena w.whole t.parts.value) (w.known h is)

  -- the node of the value that was lent last
  pub last_node : (id : ℕ) → t.last ≡ Some (OfNode id)
      → (n : Node V) × (slice_get t.parts.arena.nodes.items id ≡ Some n) × (n.value ≢ None)
  last_node id is =
      let v = holds (OfNode id) is in
      let n = node_in (slice_get t.parts.arena.nodes.items id) v.0 v.1 in
      (n.0, n.1, λ none. let both = sym n.2 ∙ none in absurd (cc))

  -- the node whose value was lent last is in the vector
  pub last_within : (id : ℕ) → t.last ≡ Some (OfNode id) → id < length t.parts.arena.nodes.items
  last_within id is = let n = last_node id is in slice_get_within t.parts.arena.nodes.items id n.0 n.1

-- a tree after a write
pub record Wrote (item : List ℕ → Type 0) {V : Type 0} (t u : HeldTree V) (prefix : List ℕ) (x : V) : Type 0 where
  pub held : IsHeld item u
  pub stands : standing u prefix ≡ written (standing t prefix) x
  pub nodes : numbered_slots 0 u.parts.arena.nodes.items ≡ numbered_slots 0 t.parts.arena.nodes.items
  pub entries : entries_to_lend u prefix ≡ entries_to_lend t prefix

module _ (item : List ℕ → Type 0) (kind : IsKeyKind item) {V : Type 0} (t u : HeldTree V)
    (prefix : List ℕ) (w : IsHeld item t) (h : ValueSlot) (lent : t.last ≡ Some h)
    (last : u.last ≡ t.last) (x : V)
    (same : holders u.parts.value u.parts.arena ≡ holders t.parts.value t.parts.arena)
    (nodes : numbered_slots 0 u.parts.arena.nodes.items ≡ numbered_slots 0 t.parts.arena.nodes.items)
    (whole : IsWellFormed u.parts.arena) (tree : IsTree item (siblings_of u.parts.arena) u.parts.count)
    (here : held u.parts.value u.parts.arena.nodes.items h ≡ Some x)
    (others : (g : ValueSlot) → is_same g h ≡ false → held u.parts.value u.parts.arena.nodes.items g ≡ held
    t.parts.value t.parts.arena.nodes.items g) where
  -- what a caller sees after the write is the map with the value at the holder's key
  key_is : (k : Option (List ℕ)) → key_at (holders t.parts.value t.parts.arena) h ≡ k
      → standing u prefix ≡ written_at (standing t prefix) k x
  key_is None e = absurd (w.known h lent e)
  key_is (Some k) e =
      let entries = own t.parts.value ++ entries_of t.parts.arena in
      let sorted = tree_sorted item kind t.parts.value (siblings_of t.parts.arena) w.tree.canonical in
      let reads = subst (λ es. ReadsHeld (held u.parts.value u.parts.arena.nodes.items) es (own u.parts.value ++ entries_of u.parts.arena)) same (holders_read u.parts.arena whole u.parts.value) in
      let put_in = put_read (held t.parts.value t.parts.arena.nodes.items) (held u.parts.value u.parts.arena.nodes.items) h
      x here others k (holders t.parts.value t.parts.arena) entries _
      (holders_read t.parts.arena w.whole t.parts.value) reads
      (holders_once t.parts.arena w.whole t.parts.value h) sorted e in
      let keys : last_key u ≡ last_key t = rw (same, last) refl in
      ap (λ m. record { map = m; prefix = prefix; last = last_key u }) (ap from_sorted put_in ∙ sym (from_sorted-put entries k x sorted))
      ∙ ap (λ l. record { map = map.insert (map_of t.parts.value (siblings_of t.parts.arena)) k x; prefix = prefix; last = l }) keys

  -- a write through the loan changes the value at that key alone
  pub wrote : Wrote item t u prefix x
  wrote = record {
    held = record { whole = whole; tree = tree; known = rw same (λ g is. w.known g (sym last ∙ is)) };
    stands = subst
        (λ o. standing u prefix ≡ written_at (standing t prefix)
        (key_of (holders t.parts.value t.parts.arena) o) x) (sym lent)
        (key_is (key_at (holders t.parts.value t.parts.arena) h) refl);
    nodes = nodes;
    entries = rw (same, last) refl;
  }

module _ (item : List ℕ → Type 0) (kind : IsKeyKind item) {V : Type 0} (t : HeldTree V)
    (prefix : List ℕ) (w : IsHeld item t) (x : V) where
  -- whatever was lent last, a write to it keeps the tree whole, and puts the value in at its key
  pub wrote_last : Wrote item t (with_held t t.last x) prefix x
  wrote_last = by t.last refl
    where
      by : (o : Option ValueSlot) → t.last ≡ o → Wrote item t (with_held t o x) prefix x
      by None is = record {
        held = w;
        stands = subst
            (λ o. standing t prefix ≡ written_at (standing t prefix)
            (key_of (holders t.parts.value t.parts.arena) o) x) (sym is) refl;
        nodes = refl;
        entries = refl;
      }
      by (Some OfEmptyKey) is =
          let v = holds item t w OfEmptyKey is in
          wrote item kind t (record t { parts = record t.parts { value = Some x } }) prefix w OfEmptyKey is refl x
          (rw v.1 refl) refl w.whole w.tree refl (λ g other. by_top g other)
        where
          by_top : (g : ValueSlot) → is_same g OfEmptyKey ≡ false
              → held (Some x) t.parts.arena.nodes.items g ≡ held t.parts.value t.parts.arena.nodes.items g
          by_top OfEmptyKey other = absurd (cc)
          by_top (OfNode i) other = refl
      by (Some (OfNode id)) is =
          let n = last_node item t w id is in
          let items : (with_value t.parts.arena id x).nodes.items ≡ set t.parts.arena.nodes.items id
          (record n.0 { value = Some x }) = ap
          (λ o. (with_valued t.parts.arena.nodes id x o).items) n.1 in
          let u = with_value t.parts.arena id x in
          wrote item kind t (record t { parts = record t.parts { arena = u } }) prefix w (OfNode id) is refl x
          (write_holders t.parts.arena u id n.0 x n.1 n.2 items refl refl t.parts.value)
          (write_numbered t.parts.arena u id n.0 x n.1 n.2 items refl refl)
          (write_whole t.parts.arena u id n.0 x n.1 n.2 items refl refl w.whole)
          (write_tree t.parts.arena u id n.0 x n.1 n.2 items refl refl item t.parts.count w.whole w.tree)
          (write_held t.parts.arena u id n.0 x n.1 n.2 items refl refl t.parts.value)
          (write_kept t.parts.arena u id n.0 x n.1 n.2 items refl refl t.parts.value)

module _ (item : List ℕ → Type 0) (kind : IsKeyKind item) {V : Type 0} (t : HeldTree V)
    (prefix : List ℕ) (w : IsHeld item t) where
  -- what is read is the value at the key that was lent last
  pub read_last : held_last t t.last ≡ last_value (standing t prefix)
  read_last = by t.last refl
    where
      by : (o : Option ValueSlot) → t.last ≡ o
          → held_last t o ≡ value_at (standing t prefix) (key_of (holders t.parts.value t.parts.arena) o)
      by None is = refl
      by (Some h) is = at (key_at (holders t.parts.value t.parts.arena) h) refl
        where
          at : (k : Option (List ℕ)) → key_at (holders t.parts.value t.parts.arena) h ≡ k
              → held t.parts.value t.parts.arena.nodes.items h ≡ value_at (standing t prefix) k
          at None e = absurd (w.known h is e)
          at (Some k) e =
              let entries = own t.parts.value ++ entries_of t.parts.arena in
              let sorted = tree_sorted item kind t.parts.value (siblings_of t.parts.arena) w.tree.canonical in
              sym (get-from_sorted key_cmp entries k sorted ∙ find_read
              (held t.parts.value t.parts.arena.nodes.items) h k (holders t.parts.value t.parts.arena) entries
              (holders_read t.parts.arena w.whole t.parts.value) sorted e)

module _ (item : List ℕ → Type 0) (kind : IsKeyKind item) {V : Type 0} (t : CursorState V)
    (prefix : List ℕ) (x : V) where
  -- the same state with the value in
  abbrev pub with_last : CursorState V
  with_last = record t { tree = with_held t.tree t.tree.last x }

  -- a write through the loan keeps a state
  pub wrote_state : IsCursorState item t prefix → IsCursorState item with_last prefix
  wrote_state w =
      let wrote = wrote_last item kind t.tree prefix w.held x in
      let place : position_of with_last ≡ position_of t = ap
      (λ ns.
      record {
        nodes = ns;
        path = t.progress.path.items;
        front = t.progress.front;
        pending = t.pending;
        next = t.progress.next;
        stack = t.progress.stack.items;
      }) wrote.nodes in
      record {
        held = wrote.held;
        position = subst (IsFrontPosition item) (sym place) w.position;
        left_is = ap (λ p. entries_left (state_at p)) place ∙ w.left_is ∙ sym wrote.entries;
      }

  -- and a cursor under a prefix, even before it has begun, when nothing is lent
  pub wrote_under : (o : Option Start) → IsPrefixCursor item t prefix o
      → IsPrefixCursor item with_last prefix o
  wrote_under None w = wrote_state w
  wrote_under (Some s) w = subst
      (λ o. IsPrefixCursor item (record t { tree = with_held t.tree o x }) prefix (Some s))
      (sym w.none) w
