-- Labels that are laid one behind another.
use Rattle.std.proofs.Common.{◌≡◌, ℕ, zero, suc, ◌+◌, ◌<◌, ◌≤◌, List, [], ◌∷◌, length, set, drop, Some, slice_get}
use Rattle.std.proofs.Common.{inl, inr, refl, sym, ap, subst, ◌∙◌, arith, length-set}
use Rattle.std.proofs.lemmas.Bool.{cases_eq}
use Rattle.std.proofs.lemmas.Option.{slice_get_within, same_Some}
use Rattle.patricia_store.specs.declared.head.Head.{Head}
use Rattle.patricia_store.specs.declared.body.Body.{Body}
use Rattle.patricia_store.specs.declared.labels.Span.{Span}
use Rattle.patricia_store.specs.Internal.Labels.{label_in, label_room, IsSpan, Extends}
use Rattle.patricia_store.specs.Internal.Heads.{head_of, child_in, sibling_in, with_child}
use Rattle.patricia_store.specs.Internal.Bodies.{span_in, value_in, body_of}
use Rattle.patricia_store.specs.Internal.Nodes.{IsLink, labels_room}
use Rattle.patricia_store.specs.Internal.Stores.{node_of, nodes_of, IsSound, AreSound, AreSpans, spans_room}
use Rattle.patricia_store.proofs.HeadLemmas.{child-head, child-changed}
use Rattle.patricia_store.proofs.LabelLemmas.{label_kept}
use Rattle.patricia_store.proofs.StoreLemmas.{get-nodes, length-nodes, item_there}
use Rattle.patricia_store.proofs.WriteLemmas.{get-set_same, get-set_other, sound_kept, span-body, value-body}

-- a list that has each item of another of its length is that list
same_list : {X : Type 0} (xs ys : List X) → length xs ≡ length ys
    → ((i : ℕ) (x : X) → slice_get xs i ≡ Some x → slice_get ys i ≡ Some x) → xs ≡ ys
same_list [] [] long same = refl
same_list [] (y ∷ ys) long same = absurd (omega (arith, long))
same_list (x ∷ xs) [] long same = absurd (omega (arith, long))
same_list (x ∷ xs) (y ∷ ys) long same =
    let one : y ≡ x = same_Some y x (same 0 x refl) in
    let rest = same_list xs ys (omega (arith, long)) (λ i z e. same (suc i) z e) in
    rw (one, rest) refl

module _ {V : Type 0} where
  -- the bytes of the labels from a number on
  pub room-more : (bytes : List ℕ) (bs : List (Body V)) (i : ℕ) (b : Body V) → slice_get bs i ≡ Some b
      → spans_room bytes (drop i bs) ≡ label_room (length (label_in bytes (span_in b))) + spans_room bytes (drop (i + 1) bs)
  room-more bytes [] i b e = absurd (cc)
  room-more bytes (c ∷ bs) zero b e =
      ap (λ d. label_room (length (label_in bytes (span_in d))) + spans_room bytes bs) (same_Some c b e)
  room-more bytes (c ∷ bs) (suc i) b e =
      let next : suc i + 1 ≡ suc (i + 1) = omega arith in
      rw next (room-more bytes bs i b e)

  -- the labels of sound nodes are among the bytes
  pub are_spans : (hs : List Head) (bs : List (Body V)) (bytes : List ℕ) → AreSound hs bs bytes → AreSpans bytes bs
  are_spans hs bs bytes are i b e =
      let h = item_there hs i (omega (arith, slice_get_within bs i b e, are.long)) in
      (are.sound i h.0 b h.1 e).span

  -- the labels of nodes take what those of their bodies take
  pub room-nodes : (hs : List Head) (bs : List (Body V)) (bytes : List ℕ) → length bs ≡ length hs
      → labels_room (nodes_of hs bs bytes) ≡ spans_room bytes bs
  room-nodes [] [] bytes e = refl
  room-nodes [] (b ∷ bs) bytes e = absurd (omega (arith, e))
  room-nodes (h ∷ hs) [] bytes e = absurd (omega (arith, e))
  room-nodes (h ∷ hs) (b ∷ bs) bytes e =
      ap (λ n. label_room (length (label_in bytes (span_in b))) + n) (room-nodes hs bs bytes (omega (arith, e)))

  -- a node whose label is laid is sound, and the same
  module _ (next : ℕ) (h : Head) (b : Body V) (xs ys : List ℕ) (is : IsSound next h b xs) (s : Span) (ok : IsSpan ys s)
      (same : label_in ys s ≡ label_in xs (span_in b)) where
    noted : with_child (child_in h) s.offset h ≡ head_of next (child_in h) (sibling_in h) (label_in xs (span_in b)) s.offset
    noted = ap (with_child (child_in h) s.offset) is.head_is
        ∙ child-changed next (child_in h) (sibling_in h) (label_in xs (span_in b)) (span_in b).offset s.offset (child_in h)

    child_same : child_in (with_child (child_in h) s.offset h) ≡ child_in h
    child_same = ap child_in noted ∙ child-head next (child_in h) (sibling_in h) (label_in xs (span_in b)) s.offset

    pub sound_laid : IsSound next (with_child (child_in h) s.offset h) (body_of s (value_in b)) ys
    sound_laid = record {
      span = rw (span-body s (value_in b)) ok;
      head_is = rw (span-body s (value_in b), same, child_same) noted;
      link = is.link;
      child_link = subst IsLink (sym child_same) is.child_link;
    }

    pub node_laid : node_of (with_child (child_in h) s.offset h) (body_of s (value_in b)) ys ≡ node_of h b xs
    node_laid = rw (span-body s (value_in b), value-body s (value_in b), same, child_same) refl

  -- the labels up to a number are laid
  pub record Laid (hs0 : List Head) (bs0 : List (Body V)) (xs : List ℕ) (n : ℕ) (hs : List Head) (bs : List (Body V))
      (ys : List ℕ) : Type 0 where
    pub done : (i : ℕ) (h : Head) (b : Body V) → i < n → slice_get hs i ≡ Some h → slice_get bs i ≡ Some b
        → IsSound (i + 1) h b ys × (slice_get (nodes_of hs0 bs0 xs) i ≡ Some (node_of h b ys))
    pub heads_left : (i : ℕ) → n ≤ i → slice_get hs i ≡ slice_get hs0 i
    pub bodies_left : (i : ℕ) → n ≤ i → slice_get bs i ≡ slice_get bs0 i
    pub heads_long : length hs ≡ length hs0
    pub bodies_long : length bs ≡ length bs0

  pub laid_none : (hs : List Head) (bs : List (Body V)) (xs ys : List ℕ) → Laid hs bs xs 0 hs bs ys
  laid_none hs bs xs ys = record {
    done = λ i h b less e f. absurd (omega (arith, less));
    heads_left = λ i h. refl;
    bodies_left = λ i h. refl;
    heads_long = refl;
    bodies_long = refl;
  }

  -- one more is
  pub laid_next : (hs0 : List Head) (bs0 : List (Body V)) (xs : List ℕ) (n : ℕ) (hs : List Head) (bs : List (Body V))
      (ys zs : List ℕ) → AreSound hs0 bs0 xs → Laid hs0 bs0 xs n hs bs ys → Extends ys zs → (h : Head) → slice_get hs n ≡ Some h
      → (b : Body V) → slice_get bs n ≡ Some b → (s : Span) → IsSpan zs s → label_in zs s ≡ label_in xs (span_in b)
      → (k : Head) → k ≡ with_child (child_in h) s.offset h → (c : Body V) → c ≡ body_of s (value_in b)
      → Laid hs0 bs0 xs (n + 1) (set hs n k) (set bs n c) zs
  laid_next hs0 bs0 xs n hs bs ys zs are l e h head_is b body_is s ok same k k_is c c_is =
      let was_head = sym (l.heads_left n (omega arith)) ∙ head_is in
      let was_body = sym (l.bodies_left n (omega arith)) ∙ body_is in
      let sound = are.sound n h b was_head was_body in
      record {
        done = λ i j d less p q. elim (cases_eq i n) [
          | inl here ↦
              let one : j ≡ k = same_Some j k (sym p ∙ ap (slice_get (set hs n k)) here ∙ get-set_same hs n k (slice_get_within hs n h head_is)) in
              let two : d ≡ c = same_Some d c (sym q ∙ ap (slice_get (set bs n c)) here ∙ get-set_same bs n c (slice_get_within bs n b body_is)) in
              rw (one, two, here, k_is, c_is) (
                sound_laid (n + 1) h b xs zs sound s ok same,
                get-nodes hs0 bs0 xs n h b was_head was_body ∙ ap (λ m. Some m) (sym (node_laid (n + 1) h b xs zs sound s ok same)),
              )
          | inr other ↦
              let before = l.done i j d (omega (arith, less, other)) (sym (get-set_other hs n i k other) ∙ p) (sym (get-set_other bs n i c other) ∙ q) in (
                sound_kept (i + 1) j d ys zs e before.0,
                before.1 ∙ ap (λ t. Some (record { label = t; value = value_in d; child = child_in j; sibling = sibling_in j }))
                    (sym (label_kept ys zs e (span_in d) before.0.span)),
              )
        ];
        heads_left = λ i past. get-set_other hs n i k (λ z. absurd (omega (arith, past, z))) ∙ l.heads_left i (omega (arith, past));
        bodies_left = λ i past. get-set_other bs n i c (λ z. absurd (omega (arith, past, z))) ∙ l.bodies_left i (omega (arith, past));
        heads_long = length-set hs n k ∙ l.heads_long;
        bodies_long = length-set bs n c ∙ l.bodies_long;
      }

  -- all are
  module _ (hs0 : List Head) (bs0 : List (Body V)) (xs : List ℕ) (n : ℕ) (hs : List Head) (bs : List (Body V))
      (ys : List ℕ) (are : AreSound hs0 bs0 xs) (l : Laid hs0 bs0 xs n hs bs ys) (all : length hs ≤ n) where
    pub laid_sound : AreSound hs bs ys
    laid_sound = record {
      long = l.bodies_long ∙ are.long ∙ sym l.heads_long;
      few = omega (arith, are.few, l.heads_long);
      sound = λ i h b p q. (l.done i h b (omega (arith, all, slice_get_within hs i h p)) p q).0;
    }

    pub laid_nodes : nodes_of hs bs ys ≡ nodes_of hs0 bs0 xs
    laid_nodes =
        let long = length-nodes hs bs ys laid_sound.long in
        same_list (nodes_of hs bs ys) (nodes_of hs0 bs0 xs)
        (omega (arith, long, length-nodes hs0 bs0 xs are.long, l.heads_long))
        (λ i m e.
        let short : i < length hs = omega (arith, slice_get_within (nodes_of hs bs ys) i m e, long) in
        let h = item_there hs i short in
        let b = item_there bs i (omega (arith, short, laid_sound.long)) in
        let is : m ≡ node_of h.0 b.0 ys = same_Some m _ (sym e ∙ get-nodes hs bs ys i h.0 b.0 h.1 b.1) in
        (l.done i h.0 b.0 (omega (arith, all, short)) h.1 b.1).1 ∙ ap (λ x. Some x) (sym is))
