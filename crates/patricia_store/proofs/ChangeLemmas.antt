-- What calls leave of the nodes that they change.
use Rattle.std.proofs.Common.{◌≡◌, ℕ, ◌+◌, ◌<◌, List, length, get_or, set}
use Rattle.std.proofs.Common.{Option, Some, None, slice_get, refl, sym, ap, ◌∙◌, arith}
use Rattle.std.specs.Global.{Vec}
use Rattle.patricia_store.specs.declared.head.Head.{Head}
use Rattle.patricia_store.specs.declared.body.Body.{Body}
use Rattle.patricia_store.specs.declared.labels.Span.{Span}
use Rattle.patricia_store.specs.declared.packed.Packed.{Packed}
use Rattle.patricia_store.specs.Internal.Labels.{label_in, IsSpan, Extends}
use Rattle.patricia_store.specs.Internal.Heads.{head_of, child_in, sibling_in, with_child, with_sibling}
use Rattle.patricia_store.specs.Internal.Bodies.{span_in, value_in, body_of}
use Rattle.patricia_store.specs.Internal.Nodes.{Node, IsLink}
use Rattle.patricia_store.specs.Internal.Stores.{node_of, nodes_of, IsSound, AreSound}
use Rattle.patricia_store.proofs.StoreLemmas.{get-nodes, item_there, in_heads, in_bodies, head_there, body_there}
use Rattle.patricia_store.proofs.LabelLemmas.{extends_none}
use Rattle.patricia_store.proofs.WriteLemmas.{write_at, head_at, body_at, sound_child, child_written, sound_sibling}
use Rattle.patricia_store.proofs.WriteLemmas.{child_stays, sibling_written, span-body, value-body, node_made, sound_made}

module _ {V : Type 0} (heads : Vec Head) (bodies : Vec (Body V)) (bytes : List ℕ)
    (sound : AreSound heads.items bodies.items bytes) (nodes : List (Node V))
    (view : nodes_of heads.items bodies.items bytes ≡ nodes) (id : ℕ) (within : id < length nodes) where
  -- the nodes of other heads and bodies are sound, and one is changed
  abbrev pub Leaves : List Head → List (Body V) → List ℕ → (Node V → Node V) → Type 0
  Leaves hs bs ys changed =
      AreSound hs bs ys × ((n : Node V) × (slice_get nodes id ≡ Some n) × (nodes_of hs bs ys ≡ set nodes id (changed n)))

  -- and this was its value
  abbrev pub Gives : List Head → List (Body V) → List ℕ → (Node V → Node V) → Option V → Type 0
  Gives hs bs ys changed taken =
      AreSound hs bs ys × ((n : Node V) × (slice_get nodes id ≡ Some n) × (nodes_of hs bs ys ≡ set nodes id (changed n)) × (taken ≡ n.value))

  module _ (h : Head) (head_is : slice_get heads.items id ≡ Some h) (b : Body V)
      (body_is : slice_get bodies.items id ≡ Some b) where
    there : slice_get nodes id ≡ Some (node_of h b bytes)
    there = ap (λ l. slice_get l id) (sym view) ∙ get-nodes heads.items bodies.items bytes id h b head_is body_is

    is : IsSound (id + 1) h b bytes
    is = sound.sound id h b head_is body_is

    leaves_child : (d : Option ℕ) → IsLink d → (at : Packed) → (d ≡ None → at ≡ (span_in b).offset)
        → Leaves (set heads.items id (with_child d at h)) bodies.items bytes (λ n. record n { child = d })
    leaves_child d ok at place =
        let w = head_at heads.items bodies.items bytes sound nodes view id (with_child d at h) b body_is (sound_child (id + 1) h b bytes is d at place ok) in (
          w.0,
          (
            node_of h b bytes,
            there,
            w.1 ∙ ap (λ c. set nodes id (record { label = label_in bytes (span_in b); value = value_in b; child = c; sibling = sibling_in h })) (child_written (id + 1) h b bytes is d at place),
          ),
        )

    leaves_sibling : (t : Option ℕ) → IsLink t
        → Leaves (set heads.items id (with_sibling (id + 1) t h)) bodies.items bytes (λ n. record n { sibling = t })
    leaves_sibling t link =
        let w = head_at heads.items bodies.items bytes sound nodes view id (with_sibling (id + 1) t h) b body_is (sound_sibling (id + 1) h b bytes is (id + 1) t link) in (
          w.0,
          (
            node_of h b bytes,
            there,
            w.1
                ∙ ap (λ c. set nodes id (record { label = label_in bytes (span_in b); value = value_in b; child = c; sibling = sibling_in (with_sibling (id + 1) t h) })) (child_stays (id + 1) h b bytes is (id + 1) t link)
                ∙ ap (λ c. set nodes id (record { label = label_in bytes (span_in b); value = value_in b; child = child_in h; sibling = c })) (sibling_written (id + 1) h b bytes is (id + 1) t link),
          ),
        )

    -- another value leaves a node sound
    sound_value : (k : Head) (v : Option V) → IsSound (id + 1) k b bytes → IsSound (id + 1) k (body_of (span_in b) v) bytes
    sound_value k v s = record {
      span = rw (span-body (span_in b) v) s.span;
      head_is = rw (span-body (span_in b) v) s.head_is;
      link = s.link;
      child_link = s.child_link;
    }

    gives_value : (v taken : Option V) → taken ≡ value_in b
        → Gives heads.items (set bodies.items id (body_of (span_in b) v)) bytes (λ n. record n { value = v }) taken
    gives_value v taken e =
        let w = body_at heads.items bodies.items bytes sound nodes view id h (body_of (span_in b) v) head_is (sound_value h v is) in (
          w.0,
          (
            node_of h b bytes,
            there,
            w.1 ∙ rw (span-body (span_in b) v, value-body (span_in b) v) refl,
            e,
          ),
        )

    gives_contents : (taken : Option V) → taken ≡ value_in b
        → Gives (set heads.items id (with_child None (span_in b).offset h)) (set bodies.items id (body_of (span_in b) None)) bytes
        (λ n. record n { child = None; value = None }) taken
    gives_contents taken e =
        let s = sound_child (id + 1) h b bytes is None (span_in b).offset (λ z. refl) tt in
        let c = child_written (id + 1) h b bytes is None (span_in b).offset (λ z. refl) in
        let w = write_at heads.items bodies.items bytes sound nodes view id (with_child None (span_in b).offset h) (body_of (span_in b) None) bytes (extends_none bytes)
        (sound_value (with_child None (span_in b).offset h) None s) in (
          w.0,
          (
            node_of h b bytes,
            there,
            w.1 ∙ ap (λ x. set nodes id (record { label = label_in bytes (span_in b); value = None; child = x; sibling = sibling_in h })) c,
            e,
          ),
        )

    -- a node that is made anew
    gives_made : (ys : List ℕ) → Extends bytes ys → (c : Option ℕ) → IsLink c → (span : Span) → IsSpan ys span
        → (v taken : Option V) → taken ≡ value_in b → IsLink (sibling_in h)
        → Gives (set heads.items id (head_of (id + 1) c (sibling_in h) (label_in ys span) span.offset))
        (set bodies.items id (body_of span v)) ys
        (λ n. record n { label = label_in ys span; child = c; value = v }) taken
    gives_made ys more c child_ok span s v taken e link =
        let w = write_at heads.items bodies.items bytes sound nodes view id _ (body_of span v) ys more
        (sound_made (id + 1) c (sibling_in h) span v ys s link child_ok) in (
          w.0,
          (
            node_of h b bytes,
            there,
            w.1 ∙ ap (set nodes id) (node_made (id + 1) c (sibling_in h) span v ys s link),
            e,
          ),
        )

  module _ (h : Head) (head_is : h ≡ get_or heads.items id h) where
    here : slice_get heads.items id ≡ Some h
    here = head_there heads bodies bytes sound nodes view id within h head_is

    pub changes_sibling : (t : Option ℕ) → IsLink t → (k : Head) → k ≡ with_sibling (id + 1) t h
        → Leaves (set heads.items id k) bodies.items bytes (λ n. record n { sibling = t })
    changes_sibling t link k e =
        let b = item_there bodies.items id (omega (arith, in_bodies heads bodies bytes sound nodes view id within, bodies.ok.0)) in
        rw e (leaves_sibling h here b.0 b.1 t link)

    module _ (b : Body V) (body_is : b ≡ get_or bodies.items id b) where
      beside : slice_get bodies.items id ≡ Some b
      beside = body_there heads bodies bytes sound nodes view id within b body_is

      pub changes_child : (d : Option ℕ) → IsLink d → (at : Packed) → (d ≡ None → at ≡ (span_in b).offset) → (k : Head)
          → k ≡ with_child d at h → Leaves (set heads.items id k) bodies.items bytes (λ n. record n { child = d })
      changes_child d ok at place k e = rw e (leaves_child h here b beside d ok at place)

      pub takes_contents : (span : Span) → span ≡ span_in b → (k : Head) → k ≡ with_child None span.offset h → (x : Body V)
          → x ≡ body_of span None → (taken : Option V) → taken ≡ value_in b
          → Gives (set heads.items id k) (set bodies.items id x) bytes (λ n. record n { child = None; value = None }) taken
      takes_contents span same k e x f taken t = rw (e, f, same) (gives_contents h here b beside taken t)

  -- another value
  pub changes_value : (b : Body V) → b ≡ get_or bodies.items id b → (span : Span) → span ≡ span_in b → (v : Option V) (x : Body V) → x ≡ body_of span v
      → (taken : Option V) → taken ≡ value_in b
      → Gives heads.items (set bodies.items id x) bytes (λ n. record n { value = v }) taken
  changes_value b body_is span same v x f taken t =
      let h = item_there heads.items id (omega (arith, in_heads heads bodies bytes sound nodes view id within, heads.ok.0)) in
      rw (f, same) (gives_value h.0 h.1 b (body_there heads bodies bytes sound nodes view id within b body_is) v taken t)

  -- another label, child and value
  pub changes_all : (h : Head) → h ≡ get_or heads.items id h → (ys : List ℕ) → Extends bytes ys → (c : Option ℕ) → IsLink c → (s : Option ℕ)
      → s ≡ sibling_in h → IsLink s → (span : Span) → IsSpan ys span → (l : List ℕ) → label_in ys span ≡ l
      → (v taken : Option V) → ((b : Body V) → slice_get bodies.items id ≡ Some b → taken ≡ value_in b)
      → (hs : Vec Head) → hs.items ≡ set heads.items id (head_of (id + 1) c s (label_in ys span) span.offset)
      → (bs : Vec (Body V)) → bs.items ≡ set bodies.items id (body_of span v)
      → Gives hs.items bs.items ys (λ n. record n { label = l; child = c; value = v }) taken
  changes_all h head_is ys more c child_ok s same link span ok l labelled v taken t hs e bs f =
      let b = item_there bodies.items id (omega (arith, in_bodies heads bodies bytes sound nodes view id within, bodies.ok.0)) in
      rw (e, f, same, ← labelled) (gives_made h (head_there heads bodies bytes sound nodes view id within h head_is) b.0 b.1 ys more c child_ok span ok v taken (t b.0 b.1) (rw same at link))
