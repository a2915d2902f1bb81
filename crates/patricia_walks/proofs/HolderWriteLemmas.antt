-- A write to a value leaves who holds each value.
use Rattle.std.proofs.Common.{◌≡◌, ◌≢◌, ℕ, zero, suc, false, List, [], ◌∷◌, set, Option, Some, None}
use Rattle.std.proofs.Common.{slice_get, refl, sym, ap, ◌∙◌, arith}
use Rattle.std.specs.Option.{option_map}
use Rattle.std.proofs.lemmas.Bool.Decides.{nat_tests}
use Rattle.std.proofs.lemmas.Option.{slice_get_within}
use Rattle.patricia_model.specs.Trees.{IsTree}
use Rattle.patricia_store.specs.Internal.Nodes.{Node}
use Rattle.patricia_nodes.specs.declared.arena.NodeArena.{NodeArena}
use Rattle.patricia_nodes.specs.Internal.Plans.{Plan, Nil, Cell, linked, head, size, count, LaidOut}
use Rattle.patricia_nodes.specs.Internal.Plans.{IsChain, IsSound, siblings_of, IsWellFormed}
use Rattle.patricia_nodes.proofs.WriteLemmas.{get-set_same, get-set_other}
use Rattle.patricia_walks.specs.declared.held_tree.ValueSlot.{ValueSlot}
use Rattle.patricia_walks.specs.declared.held_tree.ValueSlot.TheVariants.{OfEmptyKey, OfNode}
use Rattle.patricia_nodes.specs.Internal.NodeVecs.{value_in}
use Rattle.patricia_walks.specs.Internal.Holders.{numbered_slots, holders, held, is_same}
use Rattle.patricia_walks.proofs.NumberLemmas.{mark, marked_node, marks, numbered_slots-get}
use Rattle.patricia_walks.proofs.NumberLemmas.{numbered_slots-length, sound-marks}
use Rattle.patricia_walks.proofs.HolderLemmas.{length_marked, siblings_marked}

module _ {V : Type 0} (nodes : List (Node V)) where
  -- the plan with the values that the nodes have
  abbrev valued : Plan ValueSlot → Plan V
  valued Nil = Nil
  valued (Cell id label value child sibling) = Cell id label (value_in (slice_get nodes id)) (valued child) (valued sibling)

  -- a plan of holders, read to its values, has the same first number
  head-valued : (p : Plan ValueSlot) → head (valued p) ≡ head p
  head-valued Nil = refl
  head-valued (Cell id l v c d) = refl

  -- it has as many nodes
  size-valued : (p : Plan ValueSlot) → size (valued p) ≡ size p
  size-valued Nil = refl
  size-valued (Cell id l v c d) = omega (arith, size-valued c, size-valued d)

  -- each number stands in it as often
  count-valued : (p : Plan ValueSlot) (at : ℕ) → count (valued p) at ≡ count p at
  count-valued Nil at = refl
  count-valued (Cell id l v c d) at = omega (arith, count-valued c at, count-valued d at)

  -- a node is the one that its mark was made of
  node-valued : (id : ℕ) (m : Node ValueSlot) (o : Option (Node V))
      → Some m ≡ option_map (marked_node id) o
      → o ≡ Some (linked m.label (value_in o) m.child m.sibling)
  node-valued id m None e = absurd (cc)
  node-valued id m (Some n) e = let is : m ≡ marked_node id n = cc in rw is refl

  -- a node that stands among the numbered nodes is the vector's, but for its value
  get-valued : (id : ℕ) (m : Node ValueSlot) → slice_get (numbered_slots 0 nodes) id ≡ Some m
      → slice_get nodes id ≡ Some (linked m.label (value_in (slice_get nodes id)) m.child m.sibling)
  get-valued id m there = node-valued id m (slice_get nodes id) (sym there ∙ numbered_slots-get nodes id)

  -- where a plan of holders lies in the numbered nodes, that of their values lies in the nodes
  stands-valued : (p : Plan ValueSlot) → LaidOut (numbered_slots 0 nodes) p
      → LaidOut nodes (valued p)
  stands-valued Nil s = tt
  stands-valued (Cell id l v c d) s = (rw (head-valued c, head-valued d) (get-valued id _ s.0), stands-valued c s.1, stands-valued d s.2)

  -- the free nodes are linked as among the numbered nodes
  chain-valued : (spare : List ℕ) → IsChain (numbered_slots 0 nodes) spare → IsChain nodes spare
  chain-valued [] c = tt
  chain-valued (id ∷ ids) c = ((_, get-valued id c.0.0 c.0.1, c.0.2), chain-valued ids c.1)

  -- nodes are sound where the numbered nodes are
  sound-valued : (root free : Option ℕ) (p : Plan ValueSlot) (spare : List ℕ)
      → IsSound (numbered_slots 0 nodes) root free p spare
      → IsSound nodes root free (valued p) spare
  sound-valued root free p spare s = record {
    plan_ok = record {
      stands = stands-valued p s.plan_ok.stands;
      at_is = s.plan_ok.at_is ∙ sym (head-valued p);
      fits = omega (arith, s.plan_ok.fits, size-valued p, numbered_slots-length 0 nodes);
    };
    chain = chain-valued spare s.chain;
    free_is = s.free_is;
    once = λ at. rw (count-valued p at, ← numbered_slots-length 0 nodes) (s.once at);
    total = rw (size-valued p, ← numbered_slots-length 0 nodes) s.total;
  }

module _ {V : Type 0} where
  -- another value where there is one leaves the numbered nodes
  numbered_slots-set_from : (i : ℕ) (nodes : List (Node V)) (id : ℕ) (n : Node V) (w : V)
      → slice_get nodes id ≡ Some n → n.value ≢ None
      → numbered_slots i (set nodes id (record n { value = Some w })) ≡ numbered_slots i nodes
  numbered_slots-set_from i [] id n w there some = absurd (cc)
  numbered_slots-set_from i (m ∷ ns) zero n w there some =
      let is : m ≡ n = cc in
      let same = mark-some i n.value w some in
      rw (is, same) refl
    where
      mark-some : (id : ℕ) (v : Option V) (w : V) → v ≢ None → mark id v ≡ Some (OfNode id)
      mark-some id None w some = absurd (some refl)
      mark-some id (Some x) w some = refl
  numbered_slots-set_from i (m ∷ ns) (suc id) n w there some = ap (λ r. marked_node i m ∷ r) (numbered_slots-set_from (suc i) ns id n w there some)

module _ {V : Type 0} (s u : NodeArena V)
    (same : numbered_slots 0 u.nodes.items ≡ numbered_slots 0 s.nodes.items)
    (root : u.root ≡ s.root) (free : u.free ≡ s.free) where
  -- with the same holders there are the same entries of holders
  pub same_holders : (v : Option V) → holders v u ≡ holders v s
  same_holders v = rw (same, root) refl

  -- and they are whole
  pub same_whole : IsWellFormed s → IsWellFormed u
  same_whole w =
      let sound = sound-marks s.nodes.items s.root s.free w.0 w.1.0 w.1.1 in
      (valued u.nodes.items (marks w.0), (w.1.0, sound-valued u.nodes.items u.root u.free (marks w.0) w.1.0 (rw (same, root, free) sound)))

  -- and a tree of as many entries
  pub same_tree : (item : List ℕ → Type 0) (n : ℕ) → IsWellFormed s → IsTree item (siblings_of s) n
      → IsTree item (siblings_of u) n
  same_tree item n w t = record {
    canonical = (siblings_marked u (same_whole w) item).1 (rw (same, root) ((siblings_marked s w item).0 t.canonical));
    counted = t.counted ∙ sym (length_marked s w) ∙ rw (← same, ← root) (length_marked u (same_whole w));
    fits = t.fits;
  }

module _ {V : Type 0} (s u : NodeArena V) (id : ℕ) (n : Node V) (w : V)
    (there : slice_get s.nodes.items id ≡ Some n) (some : n.value ≢ None)
    (items : u.nodes.items ≡ set s.nodes.items id (record n { value = Some w })) (root : u.root ≡ s.root) (free : u.free ≡ s.free) where
  -- a write to a value leaves who holds each value
  pub write_numbered : numbered_slots 0 u.nodes.items ≡ numbered_slots 0 s.nodes.items
  write_numbered = rw items (numbered_slots-set_from 0 s.nodes.items id n w there some)

  -- so the entries of holders stay
  pub write_holders : (v : Option V) → holders v u ≡ holders v s
  write_holders v = same_holders s u write_numbered root free v

  -- the nodes stay whole
  pub write_whole : IsWellFormed s → IsWellFormed u
  write_whole whole = same_whole s u write_numbered root free whole

  -- and the tree keeps its invariant and its count
  pub write_tree : (item : List ℕ → Type 0) (count : ℕ) → IsWellFormed s
      → IsTree item (siblings_of s) count → IsTree item (siblings_of u) count
  write_tree item count whole t = same_tree s u write_numbered root free item count whole t

  -- the value is the new one there
  pub write_held : (v : Option V) → held v u.nodes.items (OfNode id) ≡ Some w
  write_held v = rw (items, get-set_same s.nodes.items id (record n { value = Some w }) (slice_get_within s.nodes.items id n there)) refl

  -- and the old one at each other holder
  pub write_kept : (v : Option V) (h : ValueSlot) → is_same h (OfNode id) ≡ false
      → held v u.nodes.items h ≡ held v s.nodes.items h
  write_kept v OfEmptyKey other = refl
  write_kept v (OfNode j) other =
      let apart : j ≢ id = λ e. grind (arith, nat_tests) in
      rw (items, get-set_other s.nodes.items id j (record n { value = Some w }) apart) refl
