-- Nodes that are added behind the last, and the first of them.
use Rattle.std.proofs.Common.{◌≡◌, ◌⊎◌, ℕ, zero, suc, ◌+◌, ◌<◌, List, [], ◌∷◌, ◌++◌, length, take}
use Rattle.std.proofs.Common.{Option, Some, slice_get, refl, ap, ◌∙◌, inl, inr, arith, length-append}
use Rattle.std.proofs.lemmas.List.{length-take}
use Rattle.std.proofs.lemmas.Option.{slice_get_within}
use Rattle.patricia_store.specs.Internal.Packing.{most_nodes}
use Rattle.patricia_store.specs.declared.head.Head.{Head}
use Rattle.patricia_store.specs.declared.body.Body.{Body}
use Rattle.patricia_store.specs.declared.labels.Span.{Span}
use Rattle.patricia_store.specs.Internal.Labels.{label_in, IsSpan, Extends}
use Rattle.patricia_store.specs.Internal.Heads.{head_of}
use Rattle.patricia_store.specs.Internal.Bodies.{body_of}
use Rattle.patricia_store.specs.Internal.Nodes.{Node, IsLink, linked}
use Rattle.patricia_store.specs.Internal.Stores.{node_of, nodes_of, IsSound, AreSound}
use Rattle.patricia_store.proofs.WriteLemmas.{all_kept, sound_made, node_made}

-- an item of a list with one more is one of the list, or that one
get-more : {X : Type 0} (xs : List X) (x y : X) (i : ℕ) → slice_get (xs ++ x ∷ []) i ≡ Some y
    → (slice_get xs i ≡ Some y) ⊎ ((i ≡ length xs) × (y ≡ x))
get-more [] x y zero e = inr (refl, cc)
get-more [] x y (suc i) e = absurd (cc)
get-more (z ∷ xs) x y zero e = inl e
get-more (z ∷ xs) x y (suc i) e = elim (get-more xs x y i e) [
  | inl h ↦ inl h
  | inr h ↦ inr (ap suc h.0, h.1)
]

-- an item of the first is one of the list
pub get-front : {X : Type 0} (n : ℕ) (xs : List X) (i : ℕ) (x : X) → slice_get (take n xs) i ≡ Some x
    → slice_get xs i ≡ Some x
get-front zero xs i x e = absurd (cc)
get-front (suc n) [] i x e = absurd (cc)
get-front (suc n) (y ∷ xs) zero x e = e
get-front (suc n) (y ∷ xs) (suc i) x e = get-front n xs i x e

module _ {V : Type 0} where
  nodes-more : (hs : List Head) (bs : List (Body V)) (bytes : List ℕ) (h : Head) (b : Body V)
      → length bs ≡ length hs
      → nodes_of (hs ++ h ∷ []) (bs ++ b ∷ []) bytes ≡ nodes_of hs bs bytes ++ node_of h b bytes ∷ []
  nodes-more [] [] bytes h b e = refl
  nodes-more [] (y ∷ bs) bytes h b e = absurd (omega (arith, e))
  nodes-more (x ∷ hs) [] bytes h b e = absurd (omega (arith, e))
  nodes-more (x ∷ hs) (y ∷ bs) bytes h b e =
      ap (λ l. node_of x y bytes ∷ l) (nodes-more hs bs bytes h b (omega (arith, e)))

  nodes-take : (n : ℕ) (hs : List Head) (bs : List (Body V)) (bytes : List ℕ)
      → nodes_of (take n hs) (take n bs) bytes ≡ take n (nodes_of hs bs bytes)
  nodes-take zero hs bs bytes = refl
  nodes-take (suc n) [] bs bytes = refl
  nodes-take (suc n) (h ∷ hs) [] bytes = refl
  nodes-take (suc n) (h ∷ hs) (b ∷ bs) bytes = ap (λ l. node_of h b bytes ∷ l) (nodes-take n hs bs bytes)

  module _ (hs : List Head) (bs : List (Body V)) (xs : List ℕ) (are : AreSound hs bs xs)
      (nodes : List (Node V)) (view : nodes_of hs bs xs ≡ nodes) where
    -- with a node more all are sound
    more_at : (h : Head) (b : Body V) (ys : List ℕ) → Extends xs ys → IsSound (length hs + 1) h b ys
        → length hs < most_nodes → AreSound (hs ++ h ∷ []) (bs ++ b ∷ []) ys
        × (nodes_of (hs ++ h ∷ []) (bs ++ b ∷ []) ys ≡ nodes ++ node_of h b ys ∷ [])
    more_at h b ys e is short =
        let all = all_kept hs bs xs ys e are in (
          record {
            long = omega (arith, are.long, length-append hs (h ∷ []), length-append bs (b ∷ []));
            few = omega (arith, short, length-append hs (h ∷ []));
            sound = λ i k c f g. elim (get-more hs h k i f) [
              | inl there ↦ elim (get-more bs b c i g) [
                | inl too ↦ all.0.sound i k c there too
                | inr past ↦ absurd (omega (arith, slice_get_within hs i k there, past.0, are.long))
              ]
              | inr here ↦ elim (get-more bs b c i g) [
                | inl too ↦ absurd (omega (arith, slice_get_within bs i c too, here.0, are.long))
                | inr past ↦ rw (here.0, here.1, past.1) is
              ]
            ];
          },
          nodes-more hs bs ys h b are.long ∙ ap (λ l. l ++ node_of h b ys ∷ []) (all.1 ∙ view),
        )

    -- and where it is made of its parts
    pub adds : (ys : List ℕ) → Extends xs ys → (c s : Option ℕ) → IsLink c → IsLink s → (span : Span) → IsSpan ys span → (l : List ℕ)
        → label_in ys span ≡ l → (v : Option V) → length hs < most_nodes → (next : ℕ) → next ≡ length hs + 1
        → (h : Head) → h ≡ head_of next c s (label_in ys span) span.offset → (b : Body V) → b ≡ body_of span v
        → (ks : List Head) → ks ≡ hs ++ h ∷ [] → (cs : List (Body V)) → cs ≡ bs ++ b ∷ []
        → AreSound ks cs ys × (nodes_of ks cs ys ≡ nodes ++ linked l v c s ∷ [])
    adds ys more c s child_ok link span ok l labelled v short next at h e b f ks p cs q =
        let w = more_at (head_of (length hs + 1) c s (label_in ys span) span.offset) (body_of span v) ys more
        (sound_made (length hs + 1) c s span v ys ok link child_ok) short in
        rw (p, q, e, f, at, ← labelled) (w.0, w.1 ∙ ap (λ n. nodes ++ n ∷ []) (node_made (length hs + 1) c s span v ys ok link))

    -- the first are sound
    pub keeps : (n : ℕ) (ks : List Head) → ks ≡ take n hs → (cs : List (Body V)) → cs ≡ take n bs
        → AreSound ks cs xs × (nodes_of ks cs xs ≡ take n nodes)
    keeps n ks p cs q = rw (p, q) (
      record {
        long = omega (arith, are.long, length-take n hs, length-take n bs);
        few = omega (arith, are.few, length-take n hs);
        sound = λ i k c f g. are.sound i k c (get-front n hs i k f) (get-front n bs i c g);
      },
      nodes-take n hs bs xs ∙ ap (take n) view,
    )
