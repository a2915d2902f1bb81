-- A node that is freed: what was around it stands.
use Rattle.std.proofs.Common.{◌≡◌, ◌≢◌, ℕ, ◌+◌, ◌<◌, ◌≤◌, List, [], ◌∷◌, ◌++◌, length, set}
use Rattle.std.proofs.Common.{Option, Some, None, slice_get, get_or, refl, sym, ap, subst, ◌∙◌, arith, length-set}
use Rattle.std.proofs.lemmas.List.{set-set, get_or-set_same}
use Rattle.std.proofs.lemmas.Option.{slice_get_within, slice_get-get_or}
use Rattle.patricia_store.specs.Internal.Nodes.{Node}
use Rattle.patricia_nodes.specs.declared.arena.NodeArena.{NodeArena}
use Rattle.patricia_nodes.specs.declared.arena.seek.LinkRef.{LinkRef}
use Rattle.patricia_nodes.specs.Internal.Plans.{Plan, Nil, Cell, linked, head, count, one, below}
use Rattle.patricia_nodes.specs.Internal.Plans.{times, first, LaidOut, IsChain, IsSound, Holds}
use Rattle.patricia_nodes.specs.Internal.Places.{Frame, InChild, InSibling, fill, count_frames}
use Rattle.patricia_nodes.specs.Internal.Places.{link_ref_of}
use Rattle.patricia_nodes.specs.Internal.Writes.{Frees, Relinks, LinkRefWithin}
use Rattle.patricia_nodes.specs.Internal.Merges.{HasLeafAt, Unlinks, HasLone}
use Rattle.patricia_nodes.proofs.PlanLemmas.{one-same, below_le, node_is}
use Rattle.patricia_nodes.proofs.FillLemmas.{stands-within, count-fill}
use Rattle.patricia_nodes.proofs.LinkRefLemmas.{has_spot_within}
use Rattle.patricia_nodes.proofs.WriteLemmas.{get-set_same, get-set_other, stands-keep, chain-keep}
use Rattle.patricia_nodes.proofs.WriteLemmas.{stands-refill, head-refill, sound-swap}

module _ {V : Type 0} where
  -- a node below the length is there, as it is read
  pub there_read : (nodes : List (Node V)) (id : ℕ) (n : Node V) → id < length nodes
      → n ≡ get_or nodes id n → slice_get nodes id ≡ Some n
  there_read nodes id n short reads = slice_get-get_or nodes id n short ∙ ap (λ m. Some m) (sym reads)

  -- a node that was written is read so
  pub read_written : (nodes new : List (Node V)) (id : ℕ) (x n : Node V) → id < length nodes
      → new ≡ set nodes id x → n ≡ get_or new id n → n ≡ x
  read_written nodes new id x n short is reads =
      node_is new id n x (ap (λ xs. slice_get xs id) is ∙ get-set_same nodes id x short) reads

  -- what was written is read
  pub written_reads : (nodes new : List (Node V)) (id : ℕ) (x : Node V) → id < length nodes
      → new ≡ set nodes id x → x ≡ get_or new id x
  written_reads nodes new id x short is = rw is (sym (get_or-set_same nodes id x x short))

  -- a node that loses its contents, and then gets another sibling, is a free one
  pub hollowed : (nodes mid new : List (Node V)) (id : ℕ) (next : Option ℕ) (n m : Node V)
      → id < length nodes → mid ≡ set nodes id (linked [] None None n.sibling)
      → m ≡ get_or mid id m → new ≡ set mid id (record m { sibling = next })
      → new ≡ set nodes id (linked [] None None next)
  hollowed nodes mid new id next n m short emptied reads is =
      let bare = linked [] None None n.sibling in
      let same : m ≡ bare = read_written nodes mid id bare m short emptied reads in
      let last = linked [] None None next in
      is ∙ rw (same, emptied) (set-set nodes id bare last)

  -- a node whose value is taken out, and which is released then, is freed as it was
  pub frees_emptied : (old mid new : NodeArena V) (id : ℕ) (value : Option V) (n m : Node V)
      → slice_get old.nodes.items id ≡ Some n
      → mid.nodes.items ≡ set old.nodes.items id (record n { value = value })
      → mid.root ≡ old.root → mid.free ≡ old.free → Frees mid new id m → Frees old new id n
  frees_emptied old mid new id value n m there emptied root_is free_is f = record {
    taken = there;
    nodes_is = f.nodes_is ∙ rw (emptied, free_is) (set-set old.nodes.items id _ _);
    root_is = f.root_is ∙ root_is;
    free_is = f.free_is;
  }

  -- what is pushed with the parts of a node is that node, with another sibling
  pub pushed_node : (to longer : List (Node V)) (label : List ℕ) (value : Option V)
      (child sibling : Option ℕ) (n : Node V) → label ≡ n.label → value ≡ n.value → child ≡ n.child
      → longer ≡ to ++ linked label value child sibling ∷ []
      → longer ≡ to ++ linked n.label n.value n.child sibling ∷ []
  pushed_node to longer label value child sibling n labels values children pushed =
      rw (← labels, ← values, ← children) pushed

module _ {V : Type 0} (old freed : NodeArena V) (id : ℕ) (n : Node V) (f : Frees old freed id n)
    (spare : List ℕ) where
  abbrev hollow : Node V
  hollow = linked [] None None old.free

  abbrev bare : List (Node V)
  bare = set old.nodes.items id hollow

  -- the free list has one number more
  freed_chain : (nodes : List (Node V)) → slice_get nodes id ≡ Some hollow
      → ((i : ℕ) → times spare i ≢ 0 → slice_get nodes i ≡ slice_get old.nodes.items i)
      → IsChain old.nodes.items spare → old.free ≡ first spare → IsChain nodes (id ∷ spare)
  freed_chain nodes here k chain free_is = ((hollow, here, free_is), chain-keep old.nodes.items nodes spare k chain)

  -- once the node is freed, an empty one with the link to the next free one is in its place
  bare_here : id < length old.nodes.items → slice_get bare id ≡ Some hollow
  bare_here short = get-set_same old.nodes.items id hollow short

  -- at the top
  module _ (l : List ℕ) (v : Option V) (d : Plan V) (new : NodeArena V) (free_is : new.free ≡ freed.free) where
    abbrev leaf : Plan V
    leaf = Cell id l v Nil d

    -- the nodes are sound without the first node of the top siblings, and its sibling is the root
    sound-unlink_root : IsSound old.nodes.items old.root old.free leaf spare
        → new.nodes.items ≡ freed.nodes.items → new.root ≡ head d
        → IsSound new.nodes.items new.root new.free d (id ∷ spare)
    sound-unlink_root sound nodes_is root_is =
        let at = sound.plan_ok.stands in
        let alone : count d id + times spare id ≡ 0 = omega (arith, sound.once id, below_le (length old.nodes.items) id, one-same id) in
        let others : (i : ℕ) → i ≢ id → slice_get bare i ≡ slice_get old.nodes.items i = λ i k. get-set_other old.nodes.items id i hollow k in
        rw (nodes_is, f.nodes_is, root_is, free_is, f.free_is)
        (sound-swap old.nodes.items bare old.root (head d) old.free (Some id) [] leaf d spare
        (id ∷ spare) sound
        (stands-keep old.nodes.items bare d (λ i k. others i (λ e. k (omega (arith, alone, ap (count d) e)))) at.2)
        refl
        (freed_chain bare (bare_here (slice_get_within old.nodes.items id _ at.0))
        (λ i k. others i (λ e. k (omega (arith, alone, ap (times spare) e)))) sound.chain
        sound.free_is)
        refl
        (λ i. rw length-set (omega arith))
        (rw length-set (omega arith)))

    -- below or beside a node of the plan, which has another plan at its other link
    module _ (whole : Plan V) (sound : IsSound old.nodes.items old.root old.free whole spare) (fs : List (Frame V)) (k : ℕ) (o : Plan V)
        (counts : (i : ℕ) → count whole i ≡ count_frames fs i + (one k i + (count leaf i + count o i))) (holder : Node V) (short : id < length old.nodes.items)
        (k_short : k < length old.nodes.items) where
      abbrev final : List (Node V)
      final = set bare k holder

      abbrev rest : ℕ → ℕ
      rest i = count_frames fs i + (count d i + (count o i + times spare i))

      -- the node that is freed is not the one above or before it
      apart : id ≢ k
      apart e = omega (arith, sound.once id, counts id, below_le (length old.nodes.items) id, one-same id, ap (λ j. one j id) e)

      -- what is neither of the two is as it was
      kept : (i : ℕ) → rest i ≢ 0 → slice_get final i ≡ slice_get old.nodes.items i
      kept i some =
          let mine : rest k ≡ 0 = omega (arith, sound.once k, counts k, below_le (length old.nodes.items) k, one-same k) in
          let gone : rest id ≡ 0 = omega (arith, sound.once id, counts id, below_le (length old.nodes.items) id, one-same id) in
          get-set_other bare k i holder (λ e. some (ap rest e ∙ mine)) ∙ get-set_other old.nodes.items id i hollow (λ e. some (ap rest e ∙ gone))

      -- the free nodes are linked, the new one first
      chained : IsChain final (id ∷ spare)
      chained = freed_chain final (get-set_other bare k id holder apart ∙ bare_here short) (λ i n. kept i (λ z. n (omega arith))) sound.chain sound.free_is

      -- the node above or before it is written at its number
      held : slice_get final k ≡ Some holder
      held = get-set_same bare k holder (rw length-set k_short)

      -- the vector is as long as before
      long : length final ≡ length old.nodes.items
      long = length-set bare k holder ∙ length-set old.nodes.items id hollow

      -- the plan at that node's other link lies as before
      other_stands : LaidOut old.nodes.items o → LaidOut final o
      other_stands = stands-keep old.nodes.items final o (λ i n. kept i (λ z. n (omega arith)))

      -- the siblings of the freed node lie as before
      rest_stands : LaidOut old.nodes.items d → LaidOut final d
      rest_stands = stands-keep old.nodes.items final d (λ i n. kept i (λ z. n (omega arith)))

      -- the frames' nodes are as before
      framed : (i : ℕ) → count_frames fs i ≢ 0 → slice_get final i ≡ slice_get old.nodes.items i
      framed i n = kept i (λ z. n (omega arith))

      -- freeing the node leaves the one above or before it as it was
      still_there : (m : Node V) → slice_get old.nodes.items k ≡ Some m
          → slice_get freed.nodes.items k ≡ Some m
      still_there m at = ap (λ xs. slice_get xs k) f.nodes_is ∙ get-set_other old.nodes.items id k hollow (λ e. apart (sym e)) ∙ at

    -- the nodes are sound without the leaf, once its sibling stands in its place
    pub sound-unlink : (fs : List (Frame V))
        → IsSound old.nodes.items old.root old.free (fill fs leaf) spare
        → Relinks freed new (link_ref_of fs) (head d)
        → IsSound new.nodes.items new.root new.free (fill fs d) (id ∷ spare)
    sound-unlink [] sound links = sound-unlink_root sound links.0 links.1
    sound-unlink (InChild k l' v' o ∷ fs) sound links =
        let q' = Cell k l' v' leaf o in
        let p' = Cell k l' v' d o in
        let holder : Node V = linked l' v' (head d) (head o) in
        let counts : (i : ℕ) → count (fill fs q') i ≡ count_frames fs i + (one k i + (count leaf i + count o i)) = λ i. count-fill fs q' i in
        let at = stands-within old.nodes.items fs q' sound.plan_ok.stands in
        let short = slice_get_within old.nodes.items id _ at.1.0 in
        let k_short = slice_get_within old.nodes.items k _ at.0 in
        let more = long (fill fs q') sound fs k o counts holder short k_short in
        rw (
          links.0 _ (still_there (fill fs q') sound fs k o counts holder short k_short _ at.0),
          f.nodes_is,
          links.1,
          f.root_is,
          free_is,
          f.free_is,
        )
        (sound-swap old.nodes.items
        (final (fill fs q') sound fs k o counts holder short k_short) old.root old.root
        old.free (Some id) fs q' p' spare (id ∷ spare) sound
        (stands-refill old.nodes.items
        (final (fill fs q') sound fs k o counts holder short k_short) fs q' p'
        (framed (fill fs q') sound fs k o counts holder short k_short) refl sound.plan_ok.stands (
          held (fill fs q') sound fs k o counts holder short k_short,
          rest_stands (fill fs q') sound
              fs k o counts holder short k_short at.1.2,
          other_stands (fill fs q') sound fs k o
              counts holder short k_short at.2,
        ))
        (sound.plan_ok.at_is ∙ head-refill fs p' q' refl)
        (chained (fill fs q') sound fs k o counts holder short k_short)
        refl
        (λ i. omega (arith, ap (λ m. below m i) more))
        (omega (arith, more)))
    sound-unlink (InSibling k l' v' o ∷ fs) sound links =
        let q' = Cell k l' v' o leaf in
        let p' = Cell k l' v' o d in
        let holder : Node V = linked l' v' (head o) (head d) in
        let counts : (i : ℕ) → count (fill fs q') i ≡ count_frames fs i + (one k i + (count leaf i + count o i)) = λ i. omega (arith, count-fill fs q' i) in
        let at = stands-within old.nodes.items fs q' sound.plan_ok.stands in
        let short = slice_get_within old.nodes.items id _ at.2.0 in
        let k_short = slice_get_within old.nodes.items k _ at.0 in
        let more = long (fill fs q') sound fs k o counts holder short k_short in
        rw (
          links.0 _ (still_there (fill fs q') sound fs k o counts holder short k_short _ at.0),
          f.nodes_is,
          links.1,
          f.root_is,
          free_is,
          f.free_is,
        )
        (sound-swap old.nodes.items
        (final (fill fs q') sound fs k o counts holder short k_short) old.root old.root
        old.free (Some id) fs q' p' spare (id ∷ spare) sound
        (stands-refill old.nodes.items
        (final (fill fs q') sound fs k o counts holder short k_short) fs q' p'
        (framed (fill fs q') sound fs k o counts holder short k_short) refl sound.plan_ok.stands (
          held (fill fs q') sound fs k o counts holder short k_short,
          other_stands (fill fs q')
              sound fs k o counts holder short k_short at.1,
          rest_stands (fill fs q') sound fs k o
              counts holder short k_short at.2.2,
        ))
        (sound.plan_ok.at_is ∙ head-refill fs p' q' refl)
        (chained (fill fs q') sound fs k o counts holder short k_short)
        refl
        (λ i. omega (arith, ap (λ m. below m i) more))
        (omega (arith, more)))

  -- the lower of two nodes, where the upper one takes its place
  module _ (u : ℕ) (l l' : List ℕ) (v : Option V) (m : List ℕ) (w : Option V) (e d : Plan V) where
    -- the nodes are sound with the upper node in the place of both, and the lower one free
    pub sound-merge_only_child : (fs : List (Frame V))
        → IsSound old.nodes.items old.root old.free (fill fs (Cell u l v (Cell id m w e Nil) d)) spare
        → IsSound (set bare u (linked l' w (head e) (head d))) old.root (Some id)
        (fill fs (Cell u l' w e d)) (id ∷ spare)
    sound-merge_only_child fs sound =
        let q = Cell u l v (Cell id m w e Nil) d in
        let p = Cell u l' w e d in
        let holder : Node V = linked l' w (head e) (head d) in
        let new = set bare u holder in
        let at = stands-within old.nodes.items fs q sound.plan_ok.stands in
        let once : (i : ℕ) → count_frames fs i +
        (one u i + (one id i + (count e i + (count d i + times spare i)))) ≤ 1 = λ i. omega
        (arith, sound.once i, below_le (length old.nodes.items) i, count-fill fs q i) in
        let apart : id ≢ u = λ same. omega (arith, once id, one-same id, ap (λ j. one j id) same) in
        let rest : ℕ → ℕ = λ i. count_frames fs i + (count e i + (count d i + times spare i)) in
        let mine : rest u ≡ 0 = omega (arith, once u, one-same u) in
        let gone : rest id ≡ 0 = omega (arith, once id, one-same id) in
        let kept : (i : ℕ) → rest i ≢ 0 → slice_get new i ≡ slice_get old.nodes.items i =
        λ i some. get-set_other bare u i holder (λ z. some (ap rest z ∙ mine)) ∙ get-set_other old.nodes.items id i hollow (λ z. some (ap rest z ∙ gone)) in
        let long : length new ≡ length old.nodes.items = length-set bare u holder ∙ length-set old.nodes.items id hollow in
        sound-swap old.nodes.items new old.root old.root old.free (Some id) fs q p spare (id ∷ spare) sound
        (stands-refill old.nodes.items new fs q p (λ i k. kept i (λ z. k (omega arith))) refl sound.plan_ok.stands (
          get-set_same bare u holder (rw length-set (slice_get_within old.nodes.items u _ at.0)),
          stands-keep old.nodes.items new e (λ i k. kept i (λ z. k (omega arith))) at.1.1,
          stands-keep old.nodes.items new d (λ i k. kept i (λ z. k (omega arith))) at.2,
        ))
        (sound.plan_ok.at_is ∙ head-refill fs p q refl)
        (freed_chain new
        (get-set_other bare u id holder apart ∙ bare_here
        (slice_get_within old.nodes.items id _ at.1.0)) (λ i k. kept i (λ z. k (omega arith)))
        sound.chain sound.free_is)
        refl
        (λ i. omega (arith, ap (λ k. below k i) long))
        (omega (arith, long))

module _ {V : Type 0} where
  -- a leaf is in the vector, and so is the node of its link
  pub leaf_within : (s : NodeArena V) (link_ref : LinkRef) (id : ℕ) → HasLeafAt s link_ref id
      → id < length s.nodes.items
  leaf_within s link_ref id h = slice_get_within s.nodes.items id _ (stands-within s.nodes.items h.0 (Cell id h.1 h.2 Nil h.3) h.5.1.plan_ok.stands).0

  -- the node of the link to the leaf stays in the vector when the leaf is freed
  pub spot_of_leaf : (s freed : NodeArena V) (link_ref : LinkRef) (id : ℕ) (n : Node V)
      → Frees s freed id n → HasLeafAt s link_ref id
      → LinkRefWithin link_ref (length freed.nodes.items)
  spot_of_leaf s freed link_ref id n f h =
      let long : length freed.nodes.items ≡ length s.nodes.items = ap length f.nodes_is ∙ length-set s.nodes.items id (linked [] None None s.free) in
      subst (LinkRefWithin link_ref) (sym long) (has_spot_within s link_ref (h.0, Cell id h.1 h.2 Nil h.3, h.4, h.5))

  -- the node is as it was read
  taken_is : (s freed : NodeArena V) (id : ℕ) (n : Node V) → Frees s freed id n
      → (fs : List (Frame V)) (l : List ℕ) (v : Option V) (c d : Plan V)
      → LaidOut s.nodes.items (fill fs (Cell id l v c d)) → n ≡ linked l v (head c) (head d)
  taken_is s freed id n f fs l v c d stands =
      let there = (stands-within s.nodes.items fs (Cell id l v c d) stands).0 in
      let taken = f.taken in cc

  -- so unlinking a leaf does what its contract says
  pub unlinks : (s freed new : NodeArena V) (link_ref : LinkRef) (id : ℕ) (n : Node V)
      → Frees s freed id n → new.free ≡ freed.free → Relinks freed new link_ref n.sibling
      → Unlinks s new link_ref id n.value
  unlinks s freed new link_ref id n f free_is links fs l v d at h =
      let is = taken_is s freed id n f fs l v Nil d h.1.plan_ok.stands in
      let links' : Relinks freed new (link_ref_of fs) (head d) = subst
      (λ (x : Node V). Relinks freed new (link_ref_of fs) x.sibling) is
      (subst (λ k. Relinks freed new k n.sibling) at links) in
      ((id ∷ h.0, sound-unlink s freed id n f h.0 l v d new free_is fs h.1 links'), ap (λ (x : Node V). x.value) is)

  -- both nodes are in the vector
  pub lone_within : (s : NodeArena V) (u k : ℕ) → HasLone s u k
      → (u < length s.nodes.items) × (k < length s.nodes.items)
  lone_within s u k h =
      let at = stands-within s.nodes.items h.0 (Cell u h.1 h.2 (Cell k h.3 h.4 h.5 Nil) h.6) h.7.1.plan_ok.stands in
      (slice_get_within s.nodes.items u _ at.0, slice_get_within s.nodes.items k _ at.1.0)
