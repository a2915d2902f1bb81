-- A new node in a place.
use Rattle.std.proofs.Common.{◌≡◌, ◌≢◌, inl, inr, ℕ, ◌+◌, ◌<◌, ◌≤◌, List, [], ◌∷◌, length, set}
use Rattle.std.proofs.Common.{Some, slice_get, refl, sym, ap, ◌∙◌}
use Rattle.std.proofs.Common.{arith, length-set}
use Rattle.std.proofs.lemmas.Option.{slice_get_within}
use Rattle.patricia_store.specs.Internal.Nodes.{Node}
use Rattle.patricia_store.specs.Internal.Labels.{label_room}
use Rattle.patricia_nodes.specs.declared.arena.NodeArena.{NodeArena}
use Rattle.patricia_nodes.specs.declared.arena.seek.LinkRef.{LinkRef}
use Rattle.patricia_nodes.specs.declared.arena.seek.LinkRef.TheVariants.{Root}
use Rattle.patricia_nodes.specs.Internal.Plans.{Plan, Cell, linked, head, size, count, one}
use Rattle.patricia_nodes.specs.Internal.Plans.{below, times, LaidOut, IsChain, IsSound}
use Rattle.patricia_nodes.specs.Internal.Places.{Frame, InChild, InSibling, fill, count_frames}
use Rattle.patricia_nodes.specs.Internal.Places.{link_ref_of}
use Rattle.patricia_nodes.specs.Internal.Writes.{Relinks}
use Rattle.patricia_edits.specs.Internal.Inserts.{Makes, MakesNode, IsBelowOrBeside, AddsNode}
use Rattle.patricia_edits.specs.Internal.Inserts.{HasCell}
use Rattle.patricia_nodes.proofs.PlanLemmas.{one-same, below_le}
use Rattle.patricia_nodes.proofs.FillLemmas.{stands-within, count-fill}
use Rattle.patricia_nodes.proofs.WriteLemmas.{get-set_same, get-set_other, stands-keep, chain-keep}
use Rattle.patricia_nodes.proofs.WriteLemmas.{stands-refill, head-refill, sound-swap, one_chain}

module _ {V : Type 0} where
  -- a plan that is taken below or beside a node keeps its numbers
  count_takes : (c d q : Plan V) → IsBelowOrBeside c d q → (at : ℕ)
      → count c at + count d at ≡ count q at
  count_takes c d q (inl e) at = rw (e.0, e.1) (omega arith)
  count_takes c d q (inr e) at = rw (e.0, e.1) (omega arith)

  -- such a plan has as many nodes below and beside the node as before
  size_takes : (c d q : Plan V) → IsBelowOrBeside c d q → size c + size d ≡ size q
  size_takes c d q (inl e) = rw (e.0, e.1) (omega arith)
  size_takes c d q (inr e) = rw (e.0, e.1) (omega arith)

  -- and its nodes lie where the plans below and beside the node say
  stands_takes : (nodes : List (Node V)) (c d q : Plan V) → IsBelowOrBeside c d q → LaidOut nodes q
      → LaidOut nodes c × LaidOut nodes d
  stands_takes nodes c d q (inl e) s = rw (e.0, e.1) (s, tt)
  stands_takes nodes c d q (inr e) s = rw (e.0, e.1) (tt, s)

module _ {V : Type 0} (old made new : NodeArena V) (c d q : Plan V) (takes : IsBelowOrBeside c d q)
    (n : Node V) (id : ℕ) (child_is : n.child ≡ head c) (sibling_is : n.sibling ≡ head d)
    (free_is : new.free ≡ made.free) (spare : List ℕ) (m : Makes old made spare n id) where
  abbrev cell : Plan V
  cell = Cell id n.label n.value c d

  -- what is written at a node that is not the new one, and is not in the plan, leaves the new one
  -- with the plan
  stands_cell : (nodes : List (Node V)) → slice_get nodes id ≡ slice_get made.nodes.items id
      → ((i : ℕ) → count q i ≢ 0 → slice_get nodes i ≡ slice_get old.nodes.items i)
      → LaidOut old.nodes.items q → LaidOut nodes cell
  stands_cell nodes here k s =
      let t = stands_takes nodes c d q takes (stands-keep old.nodes.items nodes q k s) in
      (here ∙ m.there ∙ ap (λ h. Some (linked n.label n.value h n.sibling)) child_is ∙ ap (λ h. Some (linked n.label n.value (head c) h)) sibling_is, t.0, t.1)

  -- the new number is in neither the plan nor the rest of the free list
  fresh : (whole : Plan V) → IsSound old.nodes.items old.root old.free whole spare
      → count whole id + times m.left id ≡ 0
  fresh whole sound = omega (arith, sound.once id, m.counted id, below_le (length made.nodes.items) id, one-same id)

  -- of each number the plan and the free list gain together what the vector gains
  sums : (nodes : List (Node V)) → length nodes ≡ length made.nodes.items → (i : ℕ)
      → count cell i + times m.left i + below (length old.nodes.items) i ≡ count q i + times spare i + below (length nodes) i
  sums nodes long i = rw long (omega (arith, m.counted i, count_takes c d q takes i))

  -- the nodes of the plan and the free ones are together as many as the vector has
  sizes : (nodes : List (Node V)) → length nodes ≡ length made.nodes.items
      → size cell + length m.left + length old.nodes.items ≡ size q + length spare + length nodes
  sizes nodes long = omega (arith, m.longer, size_takes c d q takes)

  -- with the new node first at the top, over or before what was there, the nodes are sound
  sound-add_root : IsSound old.nodes.items old.root old.free q spare
      → Relinks made new Root (Some id) → IsSound new.nodes.items new.root new.free cell m.left
  sound-add_root sound links =
      let f = fresh q sound in
      rw (links.0, links.1, free_is) (sound-swap old.nodes.items made.nodes.items old.root (Some id) old.free made.free [] q cell spare m.left sound
      (stands_cell made.nodes.items refl (λ i k. m.others i (λ e. k (omega (arith, f, ap (count q) e)))) sound.plan_ok.stands)
      refl
      (chain-keep old.nodes.items made.nodes.items m.left (λ i k. m.others i (λ e. k (omega (arith, f, ap (times m.left) e)))) m.chain)
      m.free_is
      (sums made.nodes.items refl)
      (sizes made.nodes.items refl))

  -- below or beside a node of the plan, with another plan at its other link
  module _ (whole : Plan V) (sound : IsSound old.nodes.items old.root old.free whole spare)
      (fs : List (Frame V)) (k : ℕ) (o : Plan V)
      (counts : (i : ℕ) → count whole i ≡ count_frames fs i + (one k i + (count q i + count o i)))
      (holder : Node V) where
    abbrev final : List (Node V)
    final = set made.nodes.items k holder

    abbrev rest : ℕ → ℕ
    rest i = count_frames fs i + (count q i + (count o i + times m.left i))

    -- what is neither the node nor the new one is as it was
    kept : (i : ℕ) → rest i ≢ 0 → slice_get final i ≡ slice_get old.nodes.items i
    kept i some =
        let new : rest id ≡ 0 = omega (arith, fresh whole sound, counts id) in
        let mine : rest k ≡ 0 = omega (
          arith,
          sound.once k,
          counts k,
          m.counted k,
          below_le (length made.nodes.items) k,
          below_le (length old.nodes.items) k,
          one-same k,
        ) in
        get-set_other made.nodes.items k i holder (λ e. some (ap rest e ∙ mine)) ∙ m.others i (λ e. some (ap rest e ∙ new))

    -- the new number is not that of the node above or before it
    apart : id ≢ k
    apart e = omega (arith, fresh whole sound, counts id, ap (one k) e, one-same k)

    -- the new node lies where the plan says, with what was in the place below or beside it
    cell_stands : LaidOut old.nodes.items q → LaidOut final cell
    cell_stands = stands_cell final (get-set_other made.nodes.items k id holder apart) (λ i n. kept i (λ z. n (omega arith)))

    -- the plan at the node's other link lies as before
    other_stands : LaidOut old.nodes.items o → LaidOut final o
    other_stands = stands-keep old.nodes.items final o (λ i n. kept i (λ z. n (omega arith)))

    -- the free nodes that are left are linked one to the next
    chained : IsChain final m.left
    chained = chain-keep old.nodes.items final m.left (λ i n. kept i (λ z. n (omega arith))) m.chain

    -- the node above or before is unchanged by the new one, and has its new link at the end
    holds : (n : Node V) → slice_get old.nodes.items k ≡ Some n
        → (slice_get made.nodes.items k ≡ Some n) × (slice_get final k ≡ Some holder)
    holds n at =
        let there = m.others k (λ e. apart (sym e)) ∙ at in
        (there, get-set_same made.nodes.items k holder (slice_get_within made.nodes.items k n there))

    -- the frames' nodes are as before
    framed : (i : ℕ) → count_frames fs i ≢ 0 → slice_get final i ≡ slice_get old.nodes.items i
    framed i n = kept i (λ z. n (omega arith))

  -- the nodes are sound with the new one in its place
  pub sound-add : (fs : List (Frame V))
      → IsSound old.nodes.items old.root old.free (fill fs q) spare
      → Relinks made new (link_ref_of fs) (Some id)
      → IsSound new.nodes.items new.root new.free (fill fs cell) m.left
  sound-add [] sound links = sound-add_root sound links
  sound-add (InChild k l v o ∷ fs) sound links =
      let q' = Cell k l v q o in
      let p' = Cell k l v cell o in
      let holder : Node V = linked l v (Some id) (head o) in
      let counts : (i : ℕ) → count (fill fs q') i ≡ count_frames fs i + (one k i + (count q i + count o i)) = λ i. count-fill fs q' i in
      let at = stands-within old.nodes.items fs q' sound.plan_ok.stands in
      let here = holds (fill fs q') sound fs k o counts holder _ at.0 in
      let long : length (set made.nodes.items k holder) ≡ length made.nodes.items = length-set made.nodes.items k holder in
      rw (links.0 _ here.0, links.1, free_is, m.root_is)
      (sound-swap old.nodes.items (set made.nodes.items k holder) old.root old.root old.free
      made.free fs q' p' spare m.left sound
      (stands-refill old.nodes.items (set made.nodes.items k holder) fs q' p' (framed (fill fs q') sound fs k o counts holder) refl sound.plan_ok.stands
      (here.1, cell_stands (fill fs q') sound fs k o counts holder at.1, other_stands (fill fs q') sound fs k o counts holder at.2))
      (sound.plan_ok.at_is ∙ head-refill fs p' q' refl)
      (chained (fill fs q') sound fs k o counts holder)
      m.free_is
      (λ i. omega (arith, sums (set made.nodes.items k holder) long i))
      (omega (arith, sizes (set made.nodes.items k holder) long)))
  sound-add (InSibling k l v o ∷ fs) sound links =
      let q' = Cell k l v o q in
      let p' = Cell k l v o cell in
      let holder : Node V = linked l v (head o) (Some id) in
      let counts : (i : ℕ) → count (fill fs q') i ≡ count_frames fs i + (one k i + (count q i + count o i)) = λ i. omega (arith, count-fill fs q' i) in
      let at = stands-within old.nodes.items fs q' sound.plan_ok.stands in
      let here = holds (fill fs q') sound fs k o counts holder _ at.0 in
      let long : length (set made.nodes.items k holder) ≡ length made.nodes.items = length-set made.nodes.items k holder in
      rw (links.0 _ here.0, links.1, free_is, m.root_is)
      (sound-swap old.nodes.items (set made.nodes.items k holder) old.root old.root old.free
      made.free fs q' p' spare m.left sound
      (stands-refill old.nodes.items (set made.nodes.items k holder) fs q' p' (framed (fill fs q') sound fs k o counts holder) refl sound.plan_ok.stands
      (here.1, other_stands (fill fs q') sound fs k o counts holder at.1, cell_stands (fill fs q') sound fs k o counts holder at.2))
      (sound.plan_ok.at_is ∙ head-refill fs p' q' refl)
      (chained (fill fs q') sound fs k o counts holder)
      m.free_is
      (λ i. omega (arith, sums (set made.nodes.items k holder) long i))
      (omega (arith, sizes (set made.nodes.items k holder) long)))

module _ {V : Type 0} where
  -- a node that was made and linked stands in the place
  pub adds : (old made new : NodeArena V) (link_ref : LinkRef) (n : Node V) (id : ℕ)
      → new.free ≡ made.free → length new.nodes.items ≡ length made.nodes.items
      → new.nodes.capacity ≡ old.nodes.capacity
      → old.nodes.room ≤ new.nodes.room + label_room (length n.label)
      → MakesNode old made n id → Relinks made new link_ref (Some id)
      → AddsNode old new link_ref n id
  adds old made new link_ref n id free_is long capacity bytes makes links fs c d q at takes child_is sibling_is h =
      let m = makes h.0 (h.1.chain, h.1.free_is) in
      let sound = sound-add old made new c d q takes n id child_is sibling_is free_is h.0 m fs h.1 (rw at at links) in (
        (m.left, sound),
        λ k left room.
            let fits = room.nodes_fit in
            let same = one_chain old.nodes.items fits.0 h.0 fits.1.0 h.1.chain (sym fits.1.1 ∙ h.1.free_is) in
            record {
              nodes_fit = (m.left, (sound.chain, sound.free_is), omega (arith, fits.2, m.longer, ap length same));
              bytes_fit = omega (arith, room.bytes_fit, bytes);
            },
      )

-- a number of the plan is in the vector
pub cell_within : {V : Type 0} (s : NodeArena V) (id : ℕ) → HasCell s id → id < length s.nodes.items
cell_within s id h = slice_get_within s.nodes.items id _ (stands-within s.nodes.items h.0 (Cell id h.1 h.2 h.3 h.4) h.5.1.plan_ok.stands).0
