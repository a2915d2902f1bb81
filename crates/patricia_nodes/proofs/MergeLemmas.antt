-- Two nodes whose labels are joined, and links that lead to nodes.
use Rattle.std.proofs.Common.{◌≡◌, ◌≢◌, ℕ, zero, suc, ◌+◌, ◌<◌, ◌≤◌, List, [], ◌∷◌, ◌++◌, length, set}
use Rattle.std.proofs.Common.{Option, Some, None, slice_get, get_or, refl, sym, ap, ◌∙◌, arith}
use Rattle.std.proofs.Common.{length-set, IfSome}
use Rattle.std.proofs.lemmas.List.{set_comm, set-set}
use Rattle.std.proofs.lemmas.Option.{slice_get_within}
use Rattle.patricia_store.specs.Internal.Nodes.{Node, Nodes}
use Rattle.patricia_nodes.specs.declared.arena.NodeArena.{NodeArena}
use Rattle.patricia_nodes.specs.declared.arena.seek.LinkRef.{LinkRef}
use Rattle.patricia_nodes.specs.Internal.Plans.{Plan, Nil, Cell, linked, head, count, one, below}
use Rattle.patricia_nodes.specs.Internal.Plans.{first, LaidOut, IsChain, IsSound, Holds}
use Rattle.patricia_nodes.specs.Internal.Places.{Frame, fill, count_frames}
use Rattle.patricia_nodes.specs.Internal.Writes.{Frees, IsWithin}
use Rattle.patricia_nodes.specs.Internal.Merges.{HasLone, HasLeafAt, Absorbs}
use Rattle.patricia_nodes.specs.Internal.NodeVecs.{HasJoinedRoom}
use Rattle.patricia_nodes.proofs.NodeVecLemmas.{node_there, there}
use Rattle.patricia_nodes.proofs.PlanLemmas.{one-same, below_le, node_is}
use Rattle.patricia_nodes.proofs.FillLemmas.{stands-within, count-fill}
use Rattle.patricia_nodes.proofs.FreeLemmas.{sound-merge_only_child, lone_within}
use Rattle.patricia_nodes.proofs.WriteLemmas.{get-set_other, get-set_same}

module _ {V : Type 0} where
  -- the first of free nodes is a node
  chain_within : (nodes : List (Node V)) (spare : List ℕ) → IsChain nodes spare
      → IsWithin (first spare) (length nodes)
  chain_within nodes [] chain = tt
  chain_within nodes (id ∷ ids) chain = slice_get_within nodes id _ chain.0.1

  pub free_within : (nodes : List (Node V)) (root free : Option ℕ) (p : Plan V) (spare : List ℕ)
      → IsSound nodes root free p spare → IsWithin free (length nodes)
  free_within nodes root free p spare sound = rw sound.free_is (chain_within nodes spare sound.chain)

  pub holds_free : (s : NodeArena V) (p : Plan V) → Holds s p → IsWithin s.free (length s.nodes.items)
  holds_free s p h = free_within s.nodes.items s.root s.free p h.0 h.1

  -- the first of siblings is a node
  pub head_stands : (nodes : List (Node V)) (p : Plan V) → LaidOut nodes p
      → IsWithin (head p) (length nodes)
  head_stands nodes Nil s = tt
  head_stands nodes (Cell id l v c d) s = slice_get_within nodes id _ s.0

  -- a leaf's sibling is a node
  pub leaf_sibling : (s : NodeArena V) (link_ref : LinkRef) (id : ℕ) (n : Node V)
      → HasLeafAt s link_ref id → n ≡ get_or s.nodes.items id n
      → IsWithin n.sibling (length s.nodes.items)
  leaf_sibling s link_ref id n h reads =
      let at = stands-within s.nodes.items h.0 (Cell id h.1 h.2 Nil h.3) h.5.1.plan_ok.stands in
      let is : n ≡ linked h.1 h.2 None (head h.3) = node_is s.nodes.items id n _ at.0 reads in
      rw is (head_stands s.nodes.items h.3 at.2)

  -- where the lower of two nodes is the only child of the upper, its first child is a node
  pub lone_child : (s : NodeArena V) (u k : ℕ) (n : Node V) → HasLone s u k
      → n ≡ get_or s.nodes.items k n → IsWithin n.child (length s.nodes.items)
  lone_child s u k n h reads =
      let at = stands-within s.nodes.items h.0 (Cell u h.1 h.2 (Cell k h.3 h.4 h.5 Nil) h.6) h.7.1.plan_ok.stands in
      let is : n ≡ linked h.3 h.4 (head h.5) None = node_is s.nodes.items k n _ at.1.0 reads in
      rw is (head_stands s.nodes.items h.5 at.1.1)

  -- the two are apart
  pub lone_apart : (s : NodeArena V) (u k : ℕ) → HasLone s u k → u ≢ k
  lone_apart s u k h same =
      absurd (omega (
        arith,
        h.7.1.once u,
        below_le (length s.nodes.items) u,
        count-fill h.0 (Cell u h.1 h.2 (Cell k h.3 h.4 h.5 Nil) h.6) u,
        one-same u,
        ap (λ j. one j u) same,
      ))

  -- where one of two nodes loses its value, there is still room for their labels as one
  pub joined_kept : (nodes new : Nodes V) (u k : ℕ) (n : Node V) (room : ℕ) → u ≢ k
      → u < length nodes.items → k < length nodes.items → n ≡ get_or nodes.items k n
      → new.items ≡ set nodes.items k (record n { value = None })
      → HasJoinedRoom nodes room u k → HasJoinedRoom new room u k
  joined_kept nodes new u k n room apart u_within k_within reads is fits a a_reads b b_reads =
      let m = node_there nodes.items u u_within in
      let a_is : a ≡ m.0 = node_is new.items u a m.0 (ap (λ xs. slice_get xs u) is ∙ get-set_other nodes.items k u _ apart ∙ there nodes.items u m.0 u_within m.1) a_reads in
      let b_is : b ≡ record n { value = None } = node_is new.items k b _ (ap (λ xs. slice_get xs k) is ∙ get-set_same nodes.items k _ k_within) b_reads in
      rw (a_is, b_is) (fits m.0 m.1 n reads)

  -- the nodes without one, which is free
  abbrev without : NodeArena V → ℕ → NodeArena V
  without s k = record s {
    nodes = record s.nodes { items = set s.nodes.items k (linked [] None None s.free) };
    free = Some k;
  }

  frees_without : (s : NodeArena V) (k : ℕ) (n : Node V) → slice_get s.nodes.items k ≡ Some n
      → Frees s (without s k) k n
  frees_without s k n there = record { taken = there; nodes_is = refl; root_is = refl; free_is = refl }

  -- the lower one lost its value, the upper one got both labels, and the lower one is free
  pub absorbs : (s new : NodeArena V) (u k : ℕ) (n a b : Node V) (child : Option ℕ)
      (value taken : Option V) (valueless joined : List (Node V))
      → HasLone s u k
      → n ≡ get_or s.nodes.items k n → child ≡ n.child
      → valueless ≡ set s.nodes.items k (record n { value = None }) → value ≡ n.value
      → a ≡ get_or valueless u a → b ≡ get_or valueless k b
      → joined ≡ set valueless u (linked (a.label ++ b.label) value child a.sibling) → taken ≡ a.value
      → new.nodes.items ≡ set joined k (linked [] None None s.free) → new.root ≡ s.root
      → new.free ≡ Some k
      → Absorbs s new u k taken
  absorbs s new u k n a b child value taken valueless joined lone reads child_is emptied value_is a_reads b_reads joins taken_is frees root_is free_is fs l v m w e d h =
      let old = s.nodes.items in
      let q = Cell u l v (Cell k m w e Nil) d in
      let at = stands-within old fs q h.1.plan_ok.stands in
      let apart : u ≢ k = lone_apart s u k lone in
      let lower : n ≡ linked m w (head e) None = node_is old k n _ at.1.0 reads in
      let upper_there : slice_get valueless u ≡ Some (linked l v (Some k) (head d)) =
      ap (λ xs. slice_get xs u) emptied ∙ get-set_other old k u _ apart ∙ at.0 in
      let lower_there : slice_get valueless k ≡ Some (linked m None (head e) None) =
      ap (λ xs. slice_get xs k) emptied ∙ get-set_same old k _ (slice_get_within old k _ at.1.0)
      ∙ ap (λ (x : Node V). Some (record x { value = None })) lower in
      let a_is : a ≡ linked l v (Some k) (head d) = node_is valueless u a _ upper_there a_reads in
      let b_is : b ≡ linked m None (head e) None = node_is valueless k b _ lower_there b_reads in
      let hollow : Node V = linked [] None None s.free in
      let node : linked (a.label ++ b.label) value child a.sibling ≡ linked (l ++ m) w (head e) (head d) =
      rw (value_is, child_is, a_is, b_is, lower) refl in
      let items : new.nodes.items ≡ set (set old k hollow) u (linked (l ++ m) w (head e) (head d)) =
      frees ∙ ap (λ xs. set xs k hollow) (joins ∙ ap (λ x. set valueless u x) node)
      ∙ set_comm valueless u k (linked (l ++ m) w (head e) (head d)) hollow apart
      ∙ ap (λ xs. set xs u (linked (l ++ m) w (head e) (head d)))
      (ap (λ xs. set xs k hollow) emptied ∙ set-set old k _ hollow) in
      ((k ∷ h.0, rw (items, root_is, free_is) (sound-merge_only_child s (without s k) k _ (frees_without s k _ at.1.0) h.0 u l (l ++ m) v m w e d fs h.1)), taken_is ∙ ap (λ (x : Node V). x.value) a_is)
