-- Nodes that are laid in another order and linked by new numbers.
use Rattle.std.proofs.Common.{◌≡◌, ℕ, ◌+◌, ◌<◌, List, length, Option, Some, None, slice_get, take}
use Rattle.std.proofs.Common.{inl, inr, refl, sym, ap, ◌∙◌, arith}
use Rattle.std.proofs.lemmas.Bool.{cases_lt}
use Rattle.std.proofs.lemmas.List.{get_or_past}
use Rattle.std.proofs.lemmas.Option.{slice_get_within, slice_get-get_or, get_or_from_slice_get, same_Some}
use Rattle.patricia_store.specs.Internal.Packing.{most}
use Rattle.patricia_store.specs.declared.head.Head.{Head}
use Rattle.patricia_store.specs.declared.body.Body.{Body}
use Rattle.patricia_store.specs.Internal.Labels.{label_in}
use Rattle.patricia_store.specs.Internal.Heads.{head_of, child_in, sibling_in, with_child}
use Rattle.patricia_store.specs.Internal.Bodies.{span_in, value_in}
use Rattle.patricia_store.specs.Internal.Nodes.{Node, IsLink}
use Rattle.patricia_store.specs.Internal.Permutations.{AreInverse, Gathers}
use Rattle.patricia_store.specs.Internal.Renumbering.{place_of, moved, moved_head, RenumbersHeads, renumbered, Rearranges, KeepsRearranged}
use Rattle.patricia_store.specs.Internal.Stores.{node_of, nodes_of, IsSound, AreSound}
use Rattle.patricia_store.proofs.StoreLemmas.{get-nodes, length-nodes, item_there}
use Rattle.patricia_store.proofs.WriteLemmas.{sound_child, child_written, sound_sibling, child_stays, sibling_written}
use Rattle.patricia_store.proofs.EndLemmas.{keeps}

-- the new number of a node that there may be is one that there may be
moved_link : (places : List ℕ) (s : Option ℕ) → ((id at : ℕ) → slice_get places id ≡ Some at → at < most)
    → IsLink s → IsLink (moved places s)
moved_link places None small link = tt
moved_link places (Some id) small link = elim (cases_lt id (length places)) [
  | inl h ↦ small id _ (slice_get-get_or places id id h)
  | inr h ↦ let there : place_of places id ≡ id = get_or_past places id id h in rw there link
]

module _ {V : Type 0} where
  -- a node without a child has its label where its link says
  leaf_link : (c : Option ℕ) (places : List ℕ) (h : Head) (next : ℕ) (s : Option ℕ) (l : List ℕ) (b : Body V)
      → c ≡ child_in h → h ≡ head_of next c s l (span_in b).offset
      → moved places c ≡ None → h.link ≡ (span_in b).offset
  leaf_link None places h next s l b same is none = ap (λ k. k.link) is
  leaf_link (Some k) places h next s l b same is none = absurd (cc)

  -- a head that is linked by new numbers is that of a sound node
  module _ (next to : ℕ) (h : Head) (b : Body V) (bytes : List ℕ) (is : IsSound next h b bytes) (places : List ℕ)
      (small : (id at : ℕ) → slice_get places id ≡ Some at → at < most) where
    place : moved places (child_in h) ≡ None → h.link ≡ (span_in b).offset
    place = leaf_link (child_in h) places h next (sibling_in h) (label_in bytes (span_in b)) b refl is.head_is

    link : IsLink (moved places (sibling_in h))
    link = moved_link places (sibling_in h) small is.link

    abbrev mid : Head
    mid = with_child (moved places (child_in h)) h.link h

    mid_sound : IsSound next mid b bytes
    mid_sound = sound_child next h b bytes is (moved places (child_in h)) h.link place (moved_link places (child_in h) small is.child_link)

    pub sound_moved : IsSound to (moved_head to places h) b bytes
    sound_moved = sound_sibling next mid b bytes mid_sound to (moved places (sibling_in h)) link

    pub node_moved : node_of (moved_head to places h) b bytes ≡ renumbered places (node_of h b bytes)
    node_moved =
        ap (λ c. record { label = label_in bytes (span_in b); value = value_in b; child = c; sibling = sibling_in (moved_head to places h) })
        (child_stays next mid b bytes mid_sound to (moved places (sibling_in h)) link
        ∙ child_written next h b bytes is (moved places (child_in h)) h.link place)
        ∙ ap (λ s. record { label = label_in bytes (span_in b); value = value_in b; child = moved places (child_in h); sibling = s })
        (sibling_written next mid b bytes mid_sound to (moved places (sibling_in h)) link)

  module _ (hs : List Head) (bs : List (Body V)) (bytes : List ℕ) (are : AreSound hs bs bytes) (nodes : List (Node V))
      (view : nodes_of hs bs bytes ≡ nodes) (order places : List ℕ) (inv : AreInverse order places)
      (long : length order ≡ length nodes) (mid hs2 : List Head) (bs2 : List (Body V)) (r : RenumbersHeads places hs mid)
      (gh : Gathers order mid hs2) (gb : Gathers order bs bs2) where
    many : length nodes ≡ length hs
    many = ap length (sym view) ∙ length-nodes hs bs bytes are.long

    small : (id at : ℕ) → slice_get places id ≡ Some at → at < most
    small id at e = omega (arith, slice_get_within order at id (inv.number at id e), long, many, are.few)

    -- the head and the body at a place
    module _ (i id : ℕ) (e : slice_get order i ≡ Some id) (h : Head) (f : slice_get hs id ≡ Some h) (b : Body V) (g : slice_get bs id ≡ Some b) where
      head_at : slice_get hs2 i ≡ Some (moved_head (i + 1) places h)
      head_at = gh.item i id e ∙ r.head id h f
          ∙ ap (λ at. Some (moved_head (at + 1) places h)) (get_or_from_slice_get places id i id (inv.place i id e))

      body_at : slice_get bs2 i ≡ Some b
      body_at = gb.item i id e ∙ g

    all_sound : AreSound hs2 bs2 bytes
    all_sound = record {
      long = gb.long ∙ are.long ∙ sym (gh.long ∙ r.long);
      few = omega (arith, are.few, gh.long, r.long);
      sound = λ i k c p q.
          let o = item_there order i (omega (arith, slice_get_within hs2 i k p, gh.long, r.long, long, many)) in
          let at = inv.place i o.0 o.1 in
          let short : o.0 < length hs = omega (arith, slice_get_within places o.0 i at, inv.long, long, many) in
          let h = item_there hs o.0 short in
          let b = item_there bs o.0 (omega (arith, short, are.long)) in
          let one : k ≡ moved_head (i + 1) places h.0 = same_Some k _ (sym p ∙ head_at i o.0 o.1 h.0 h.1 b.0 b.1) in
          let two : c ≡ b.0 = same_Some c b.0 (sym q ∙ body_at i o.0 o.1 h.0 h.1 b.0 b.1) in
          rw (one, two) (sound_moved (o.0 + 1) (i + 1) h.0 b.0 bytes (are.sound o.0 h.0 b.0 h.1 b.1) places small);
    }

    all_rearranged : Rearranges order places nodes (nodes_of hs2 bs2 bytes)
    all_rearranged = record {
      node = λ i id n e p.
          let short : id < length hs = omega (arith, slice_get_within nodes id n p, many) in
          let h = item_there hs id short in
          let b = item_there bs id (omega (arith, short, are.long)) in
          let is : n ≡ node_of h.0 b.0 bytes = same_Some n _ (sym p ∙ ap (λ l. slice_get l id) (sym view) ∙ get-nodes hs bs bytes id h.0 b.0 h.1 b.1) in
          get-nodes hs2 bs2 bytes i _ b.0 (head_at i id e h.0 h.1 b.0 b.1) (body_at i id e h.0 h.1 b.0 b.1)
          ∙ ap (λ x. Some x) (node_moved (id + 1) (i + 1) h.0 b.0 bytes (are.sound id h.0 b.0 h.1 b.1) places small ∙ ap (renumbered places) (sym is));
      long = length-nodes hs2 bs2 bytes all_sound.long ∙ gh.long ∙ r.long ∙ sym many;
    }

    -- the first of them
    pub rearranged : (used : ℕ) (ks : List Head) → ks ≡ take used hs2 → (cs : List (Body V)) → cs ≡ take used bs2
        → AreSound ks cs bytes × KeepsRearranged used order places nodes (nodes_of ks cs bytes)
    rearranged used ks p cs q =
        let k = keeps hs2 bs2 bytes all_sound (nodes_of hs2 bs2 bytes) refl used ks p cs q in
        (k.0, (nodes_of hs2 bs2 bytes, all_rearranged, k.1))
