-- Labels that are cut in two or joined.
use Rattle.std.proofs.Common.{◌≡◌, ◌≢◌, ℕ, ◌+◌, ◌<◌, List, ◌++◌, length, get_or, set, take, drop}
use Rattle.std.proofs.Common.{Option, Some, slice_get, refl, sym, ap, subst, ◌∙◌, length-set}
use Rattle.std.specs.Global.{Vec}
use Rattle.patricia_store.specs.declared.head.Head.{Head}
use Rattle.patricia_store.specs.declared.body.Body.{Body}
use Rattle.patricia_store.specs.declared.labels.Span.{Span}
use Rattle.patricia_store.specs.Internal.Labels.{label_in, len_in, IsSpan, Extends}
use Rattle.patricia_store.specs.Internal.Heads.{head_of, child_in, sibling_in}
use Rattle.patricia_store.specs.Internal.Bodies.{span_in, value_in, body_of}
use Rattle.patricia_store.specs.Internal.Nodes.{Node, IsLink, linked}
use Rattle.patricia_store.specs.Internal.Stores.{nodes_of, IsSound, AreSound}
use Rattle.patricia_store.proofs.LabelLemmas.{label_len, extends_none}
use Rattle.patricia_store.proofs.StoreLemmas.{item_there, reads_child, links_read, span_read, label_read}
use Rattle.patricia_store.proofs.WriteLemmas.{get-set_other}
use Rattle.patricia_store.proofs.ChangeLemmas.{changes_all}

module _ {V : Type 0} (heads : Vec Head) (bodies : Vec (Body V)) (bytes : List ℕ)
    (sound : AreSound heads.items bodies.items bytes) (nodes : List (Node V))
    (view : nodes_of heads.items bodies.items bytes ≡ nodes) where
  -- the length of a label that is read is that of the node's
  pub len_read : (id : ℕ) (within : id < length nodes) (h : Head) (head_is : h ≡ get_or heads.items id h) (b : Body V)
      (body_is : b ≡ get_or bodies.items id b) (span : Span)
      (says : (next : ℕ) (l : List ℕ) → IsSound next h b l → span ≡ span_in b) (n : Node V)
      → slice_get nodes id ≡ Some n → len_in bytes span ≡ length n.label
  len_read id within h head_is b body_is span says n reads =
      sym (label_len bytes span (span_read heads bodies bytes sound nodes view id within h head_is b body_is span says))
      ∙ ap length (label_read heads bodies bytes sound nodes view id within h head_is b body_is span says n reads)

  module _ (id : ℕ) (within : id < length nodes) (h : Head) (head_is : h ≡ get_or heads.items id h)
      (span : Span) (read : (n : Node V) → slice_get nodes id ≡ Some n → label_in bytes span ≡ n.label)
      (ys : List ℕ) (more : Extends bytes ys) (s : Option ℕ) (sibling_is : s ≡ sibling_in h) (link : IsLink s)
      (value own : Option V) (own_is : (b : Body V) → slice_get bodies.items id ≡ Some b → own ≡ value_in b)
      (hs : Vec Head) (bs : Vec (Body V)) where
    -- a label has that of another behind it
    pub joins : (lower : ℕ) (short : lower < length nodes) (second joined : Span)
        (read_second : (n : Node V) → slice_get nodes lower ≡ Some n → label_in bytes second ≡ n.label)
        → IsSpan ys joined → label_in ys joined ≡ label_in bytes span ++ label_in bytes second
        → (child : Option ℕ) → IsLink child → hs.items ≡ set heads.items id (head_of (id + 1) child s (label_in ys joined) joined.offset)
        → bs.items ≡ set bodies.items id (body_of joined value)
        → AreSound hs.items bs.items ys × ((a b : Node V) × (slice_get nodes id ≡ Some a) × (slice_get nodes lower ≡ Some b)
        × (nodes_of hs.items bs.items ys ≡ set nodes id (linked (a.label ++ b.label) value child a.sibling)) × (own ≡ a.value))
    joins lower short second joined read_second ok labelled child child_ok e f =
        let one = changes_all heads bodies bytes sound nodes view id within h head_is ys more child child_ok s sibling_is link joined ok
        (label_in ys joined) refl value own own_is hs e bs f in
        let a = one.1.0 in
        let b = item_there nodes lower short in
        let label : label_in ys joined ≡ a.label ++ b.0.label =
        labelled ∙ ap (λ l. l ++ label_in bytes second) (read a one.1.1) ∙ ap (λ l. a.label ++ l) (read_second b.0 b.1) in (
          one.0,
          (a, b.0, one.1.1, b.1, one.1.2 ∙ ap (λ l. set nodes id (linked l value child a.sibling)) label, one.1.3),
        )

    -- a label is cut in two, and the second part goes to another node
    module _ (n tail : ℕ) (tail_in : tail < length nodes) (tail_ok : IsLink (Some tail)) (apart : tail ≢ id) (front back : Span) (front_ok : IsSpan ys front)
        (back_ok : IsSpan ys back) (front_is : label_in ys front ≡ take n (label_in bytes span))
        (back_is : label_in ys back ≡ drop n (label_in bytes span))
        (e : hs.items ≡ set heads.items id (head_of (id + 1) (Some tail) s (label_in ys front) front.offset))
        (f : bs.items ≡ set bodies.items id (body_of front value)) where
      first : AreSound hs.items bs.items ys × ((a : Node V) × (slice_get nodes id ≡ Some a)
          × (nodes_of hs.items bs.items ys ≡ set nodes id (linked (label_in ys front) value (Some tail) a.sibling)) × (own ≡ a.value))
      first = changes_all heads bodies bytes sound nodes view id within h head_is ys more (Some tail) tail_ok s sibling_is link front front_ok
          (label_in ys front) refl value own own_is hs e bs f

      pub splits : (k : Head) → k ≡ get_or hs.items tail k → (c t : Option ℕ) → c ≡ child_in h → t ≡ sibling_in k → IsLink t
          → (taken : Option V) → ((b : Body V) → slice_get bs.items tail ≡ Some b → taken ≡ value_in b)
          → (hs2 : Vec Head) → hs2.items ≡ set hs.items tail (head_of (tail + 1) c t (label_in ys back) back.offset)
          → (bs2 : Vec (Body V)) → bs2.items ≡ set bs.items tail (body_of back own)
          → AreSound hs2.items bs2.items ys × ((a b : Node V) × (slice_get nodes id ≡ Some a) × (slice_get nodes tail ≡ Some b)
          × (nodes_of hs2.items bs2.items ys ≡ set (set nodes id (linked (take n a.label) value (Some tail) a.sibling))
          tail (linked (drop n a.label) a.value a.child b.sibling)) × (taken ≡ b.value))
      splits k k_is c t child_is beside linked_t taken taken_is hs2 p bs2 q =
          let a = first.1.0 in
          let m = linked (label_in ys front) value (Some tail) a.sibling in
          let two = changes_all hs bs ys first.0 (set nodes id m) first.1.2 tail (rw length-set tail_in) k k_is ys (extends_none ys)
          c (subst IsLink (sym child_is) (links_read heads bodies bytes sound nodes view id within h head_is)) t beside linked_t back back_ok (label_in ys back) refl own taken taken_is hs2 p bs2 q in
          let b = two.1.0 in
          let there : slice_get nodes tail ≡ Some b = sym (get-set_other nodes id tail m apart) ∙ two.1.1 in
          let label : label_in bytes span ≡ a.label = read a first.1.1 in
          let child : c ≡ a.child = child_is ∙ reads_child heads bodies bytes sound nodes view id within h head_is a first.1.1 in (
            two.0,
            (
              a,
              b,
              first.1.1,
              there,
              two.1.2
                  ∙ ap (λ l. set (set nodes id (linked l value (Some tail) a.sibling)) tail (linked (label_in ys back) own c b.sibling)) (front_is ∙ ap (take n) label)
                  ∙ ap (λ l. set (set nodes id (linked (take n a.label) value (Some tail) a.sibling)) tail (linked l own c b.sibling)) (back_is ∙ ap (drop n) label)
                  ∙ ap (λ v. set (set nodes id (linked (take n a.label) value (Some tail) a.sibling)) tail (linked (drop n a.label) v c b.sibling)) first.1.3
                  ∙ ap (λ v. set (set nodes id (linked (take n a.label) value (Some tail) a.sibling)) tail (linked (drop n a.label) a.value v b.sibling)) child,
              two.1.3,
            ),
          )
