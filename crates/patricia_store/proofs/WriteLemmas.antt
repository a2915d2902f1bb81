-- Nodes that are written, in heads, bodies and the bytes of labels.
use Rattle.std.proofs.Common.{◌≡◌, ◌≢◌, ℕ, zero, suc, ◌+◌, ◌<◌, List, [], ◌∷◌, length, set}
use Rattle.std.proofs.Common.{Option, Some, None, slice_get, refl, sym, ap, subst, ◌∙◌, inl, inr, arith, length-set}
use Rattle.std.proofs.lemmas.Bool.{cases_eq}
use Rattle.std.proofs.lemmas.Option.{same_Some, slice_get_within}
use Rattle.patricia_store.specs.declared.head.Head.{Head}
use Rattle.patricia_store.specs.declared.body.Body.{Body}
use Rattle.patricia_store.specs.declared.labels.Span.{Span}
use Rattle.patricia_store.specs.declared.packed.Packed.{Packed}
use Rattle.patricia_store.specs.Internal.Labels.{label_in, IsSpan, Extends}
use Rattle.patricia_store.specs.Internal.Heads.{head_of, child_in, sibling_in, with_child, with_sibling}
use Rattle.patricia_store.specs.Internal.Bodies.{span_in, value_in, body_of}
use Rattle.patricia_store.specs.Internal.Nodes.{Node, IsLink}
use Rattle.patricia_store.specs.Internal.Stores.{node_of, nodes_of, IsSound, AreSound}
use Rattle.patricia_store.proofs.HeadLemmas.{child-head, sibling-head, child-changed, sibling-changed}
use Rattle.patricia_store.proofs.LabelLemmas.{span_kept, label_kept, extends_none}

-- an item that is put at a number is there
pub get-set_same : {X : Type 0} (xs : List X) (i : ℕ) (x : X) → i < length xs → slice_get (set xs i x) i ≡ Some x
get-set_same [] i x h = absurd (omega (arith, h))
get-set_same (y ∷ xs) zero x h = refl
get-set_same (y ∷ xs) (suc i) x h = get-set_same xs i x (omega (arith, h))

-- and the others stay
pub get-set_other : {X : Type 0} (xs : List X) (i j : ℕ) (x : X) → j ≢ i → slice_get (set xs i x) j ≡ slice_get xs j
get-set_other [] i j x n = refl
get-set_other (y ∷ xs) zero zero x n = absurd (n refl)
get-set_other (y ∷ xs) zero (suc j) x n = refl
get-set_other (y ∷ xs) (suc i) zero x n = refl
get-set_other (y ∷ xs) (suc i) (suc j) x n = get-set_other xs i j x (λ e. n (ap suc e))

-- what is there again changes nothing
pub set-same : {X : Type 0} (xs : List X) (i : ℕ) (x : X) → slice_get xs i ≡ Some x → set xs i x ≡ xs
set-same [] i x e = refl
set-same (y ∷ xs) zero x e = let same : y ≡ x = cc in rw same refl
set-same (y ∷ xs) (suc i) x e = ap (λ l. y ∷ l) (set-same xs i x e)

module _ {V : Type 0} where
  -- another head and body at a number is another node there
  pub nodes-set : (hs : List Head) (bs : List (Body V)) (bytes : List ℕ) (i : ℕ) (h : Head) (b : Body V)
      → nodes_of (set hs i h) (set bs i b) bytes ≡ set (nodes_of hs bs bytes) i (node_of h b bytes)
  nodes-set [] bs bytes i h b = refl
  nodes-set (x ∷ hs) [] bytes zero h b = refl
  nodes-set (x ∷ hs) [] bytes (suc i) h b = refl
  nodes-set (x ∷ hs) (y ∷ bs) bytes zero h b = refl
  nodes-set (x ∷ hs) (y ∷ bs) bytes (suc i) h b = ap (λ l. node_of x y bytes ∷ l) (nodes-set hs bs bytes i h b)

  -- nodes stay where their labels do
  pub nodes-bytes : (hs : List Head) (bs : List (Body V)) (xs ys : List ℕ)
      → ((i : ℕ) (h : Head) (b : Body V) → slice_get hs i ≡ Some h → slice_get bs i ≡ Some b
      → label_in ys (span_in b) ≡ label_in xs (span_in b))
      → nodes_of hs bs ys ≡ nodes_of hs bs xs
  nodes-bytes [] bs xs ys same = refl
  nodes-bytes (h ∷ hs) [] xs ys same = refl
  nodes-bytes (h ∷ hs) (b ∷ bs) xs ys same =
      let rest = nodes-bytes hs bs xs ys (λ i k c. same (suc i) k c) in
      rw (same 0 h b refl refl, rest) refl

  -- a node is sound where more bytes come
  pub sound_kept : (next : ℕ) (h : Head) (b : Body V) (xs ys : List ℕ) → Extends xs ys
      → IsSound next h b xs → IsSound next h b ys
  sound_kept next h b xs ys e is = record {
    span = span_kept xs ys e (span_in b) is.span;
    head_is = is.head_is
        ∙ ap (λ l. head_of next (child_in h) (sibling_in h) l (span_in b).offset) (sym (label_kept xs ys e (span_in b) is.span));
    link = is.link;
    child_link = is.child_link;
  }

  -- all are
  pub all_kept : (hs : List Head) (bs : List (Body V)) (xs ys : List ℕ) → Extends xs ys
      → AreSound hs bs xs → AreSound hs bs ys × (nodes_of hs bs ys ≡ nodes_of hs bs xs)
  all_kept hs bs xs ys e are = (
    record {
      long = are.long;
      few = are.few;
      sound = λ i h b f g. sound_kept (i + 1) h b xs ys e (are.sound i h b f g);
    },
    nodes-bytes hs bs xs ys (λ i h b f g. label_kept xs ys e (span_in b) (are.sound i h b f g).span),
  )

  -- all are with another that is
  pub all_written : (hs : List Head) (bs : List (Body V)) (bytes : List ℕ) (i : ℕ) (h : Head) (b : Body V)
      → AreSound hs bs bytes → IsSound (i + 1) h b bytes → AreSound (set hs i h) (set bs i b) bytes
  all_written hs bs bytes i h b are is = record {
    long = length-set bs i b ∙ are.long ∙ sym (length-set hs i h);
    few = rw (length-set hs i h) are.few;
    sound = λ j k c e f. elim (cases_eq j i) [
      | inl same ↦
          let short : i < length hs = rw (same, length-set hs i h) at (slice_get_within (set hs i h) j k e) in
          let one : k ≡ h = same_Some k h (sym e ∙ ap (slice_get (set hs i h)) same ∙ get-set_same hs i h short) in
          let two : c ≡ b = same_Some c b (sym f ∙ ap (slice_get (set bs i b)) same ∙ get-set_same bs i b (omega (arith, short, are.long))) in
          rw (one, two, same) is
      | inr other ↦ are.sound j k c (sym (get-set_other hs i j h other) ∙ e) (sym (get-set_other bs i j b other) ∙ f)
    ];
  }

  -- a head with another child is that of a sound node
  module _ (next : ℕ) (h : Head) (b : Body V) (bytes : List ℕ) (is : IsSound next h b bytes) where
    module _ (d : Option ℕ) (at : Packed) (place : d ≡ None → at ≡ (span_in b).offset) where
      placed : (x : Option ℕ) → (x ≡ None → at ≡ (span_in b).offset)
          → head_of next x (sibling_in h) (label_in bytes (span_in b)) at
          ≡ head_of next x (sibling_in h) (label_in bytes (span_in b)) (span_in b).offset
      placed None p = ap (head_of next None (sibling_in h) (label_in bytes (span_in b))) (p refl)
      placed (Some k) p = refl

      child_noted : with_child d at h ≡ head_of next d (sibling_in h) (label_in bytes (span_in b)) (span_in b).offset
      child_noted = ap (with_child d at) is.head_is
          ∙ child-changed next (child_in h) (sibling_in h) (label_in bytes (span_in b)) (span_in b).offset at d
          ∙ placed d place

      pub child_written : child_in (with_child d at h) ≡ d
      child_written = ap child_in child_noted ∙ child-head next d (sibling_in h) (label_in bytes (span_in b)) (span_in b).offset

      pub sound_child : IsLink d → IsSound next (with_child d at h) b bytes
      sound_child ok = record {
        span = is.span;
        head_is = child_noted
            ∙ ap (λ x. head_of next x (sibling_in h) (label_in bytes (span_in b)) (span_in b).offset) (sym child_written);
        link = is.link;
        child_link = subst IsLink (sym child_written) ok;
      }

    -- and so is one with another sibling, before another node
    module _ (to : ℕ) (t : Option ℕ) (link : IsLink t) where
      sibling_noted : with_sibling to t h ≡ head_of to (child_in h) t (label_in bytes (span_in b)) (span_in b).offset
      sibling_noted = ap (with_sibling to t) is.head_is
          ∙ sibling-changed next to (child_in h) (sibling_in h) (label_in bytes (span_in b)) (span_in b).offset t

      pub child_stays : child_in (with_sibling to t h) ≡ child_in h
      child_stays = ap child_in sibling_noted ∙ child-head to (child_in h) t (label_in bytes (span_in b)) (span_in b).offset

      pub sibling_written : sibling_in (with_sibling to t h) ≡ t
      sibling_written = ap sibling_in sibling_noted
          ∙ sibling-head to (child_in h) t (label_in bytes (span_in b)) (span_in b).offset link

      pub sound_sibling : IsSound to (with_sibling to t h) b bytes
      sound_sibling = record {
        span = is.span;
        head_is = sibling_noted
            ∙ ap (λ x. head_of to x t (label_in bytes (span_in b)) (span_in b).offset) (sym child_stays)
            ∙ ap (λ x. head_of to (child_in (with_sibling to t h)) x (label_in bytes (span_in b)) (span_in b).offset) (sym sibling_written);
        link = subst IsLink (sym sibling_written) link;
        child_link = subst IsLink (sym child_stays) is.child_link;
      }

  -- a body has the label and the value that it is made of
  pub span-body : (s : Span) (v : Option V) → span_in (body_of s v) ≡ s
  span-body s None = refl
  span-body s (Some x) = refl

  pub value-body : (s : Span) (v : Option V) → value_in (body_of s v) ≡ v
  value-body s None = refl
  value-body s (Some x) = refl

  -- a node is sound as it is made
  module _ (next : ℕ) (c s : Option ℕ) (span : Span) (v : Option V) (bytes : List ℕ) (is : IsSpan bytes span) (link : IsLink s) where
    pub node_made : node_of (head_of next c s (label_in bytes span) span.offset) (body_of span v) bytes
        ≡ record { label = label_in bytes span; value = v; child = c; sibling = s }
    node_made = rw (span-body span v, value-body span v, child-head next c s (label_in bytes span) span.offset, sibling-head next c s (label_in bytes span) span.offset link) refl

    pub sound_made : IsLink c → IsSound next (head_of next c s (label_in bytes span) span.offset) (body_of span v) bytes
    sound_made ok = record {
      span = rw (span-body span v) is;
      head_is = rw (span-body span v, child-head next c s (label_in bytes span) span.offset, sibling-head next c s (label_in bytes span) span.offset link) refl;
      link = subst IsLink (sym (sibling-head next c s (label_in bytes span) span.offset link)) link;
      child_link = subst IsLink (sym (child-head next c s (label_in bytes span) span.offset)) ok;
    }

module _ {V : Type 0} (hs : List Head) (bs : List (Body V)) (xs : List ℕ) (are : AreSound hs bs xs)
    (nodes : List (Node V)) (view : nodes_of hs bs xs ≡ nodes) (id : ℕ) where
  -- with another node that is sound all are
  pub write_at : (h : Head) (b : Body V) (ys : List ℕ) → Extends xs ys → IsSound (id + 1) h b ys
      → AreSound (set hs id h) (set bs id b) ys
      × (nodes_of (set hs id h) (set bs id b) ys ≡ set nodes id (node_of h b ys))
  write_at h b ys e is =
      let all = all_kept hs bs xs ys e are in (
        all_written hs bs ys id h b all.0 is,
        nodes-set hs bs ys id h b ∙ ap (λ l. set l id (node_of h b ys)) (all.1 ∙ view),
      )

  -- and with another head
  pub head_at : (h : Head) (b : Body V) → slice_get bs id ≡ Some b → IsSound (id + 1) h b xs
      → AreSound (set hs id h) bs xs × (nodes_of (set hs id h) bs xs ≡ set nodes id (node_of h b xs))
  head_at h b there is =
      subst (λ l. AreSound (set hs id h) l xs × (nodes_of (set hs id h) l xs ≡ set nodes id (node_of h b xs)))
      (set-same bs id b there) (write_at h b xs (extends_none xs) is)

  -- and with another body
  pub body_at : (h : Head) (b : Body V) → slice_get hs id ≡ Some h → IsSound (id + 1) h b xs
      → AreSound hs (set bs id b) xs × (nodes_of hs (set bs id b) xs ≡ set nodes id (node_of h b xs))
  body_at h b there is =
      subst (λ l. AreSound l (set bs id b) xs × (nodes_of l (set bs id b) xs ≡ set nodes id (node_of h b xs)))
      (set-same hs id h there) (write_at h b xs (extends_none xs) is)
