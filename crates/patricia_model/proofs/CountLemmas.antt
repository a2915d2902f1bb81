-- What a look-up adds to its steps at a node, by how the key meets the label.
use Rattle.std.proofs.Common.{◌≡◌, ℕ, ◌+◌, ◌<◌, ◌≤◌, ◌≢◌, List, [], ◌∷◌, ◌++◌, Option, length, map}
use Rattle.std.proofs.Common.{get_or, refl, sym, ap, subst, ◌∙◌, arith}
use Rattle.std.specs.Ordering.{nat_cmp, ordering_then}
use Rattle.std.specs.FinMap.{keys, entries-from_sorted}
use Rattle.std.specs.declared.cmp.Ordering.{Ordering}
use Rattle.std.specs.declared.cmp.Ordering.TheVariants.{Less, Equal, Greater}
use Rattle.std.proofs.lemmas.List.{append_cancel_left, length-append, length-map}
use Rattle.std.proofs.lemmas.Bool.Decides.{nat_tests}
use Rattle.patricia_keys.specs.Keys.{AreSingle, Begins, IsKeyKind, IsValid, key_cmp}
use Rattle.patricia_model.specs.Internal.LabelCmp.{SharesItem, EndsWithin, Passes}
use Rattle.patricia_model.specs.Siblings.{Siblings, end, node, own, entries, keys_of, IsBefore}
use Rattle.patricia_model.specs.Siblings.{IsBeforeSiblings, IsCanonical}
use Rattle.patricia_model.specs.Points.{IsVisitCount}
use Rattle.patricia_model.specs.Trees.{map_of}
use Rattle.patricia_model.specs.Internal.Counts.{AreVisits, first_byte, IsCounted}
use Rattle.patricia_keys.proofs.KeyLemmas.{Begins-trans, begins_same, first_of, key_cmp-irreflexive}
use Rattle.patricia_model.proofs.GetLemmas.{common_whole}
use Rattle.patricia_model.proofs.PointLemmas.{splits, own_within, within_own}
use Rattle.patricia_model.proofs.TreeLemmas.{tree_sorted}
use Rattle.patricia_model.proofs.VisitLemmas.{Matches, less_once, no_visits, empty_visits}
use Rattle.patricia_model.proofs.VisitLemmas.{AreVisits-same, visits_stop, visits_past}
use Rattle.patricia_model.proofs.VisitLemmas.{visits_through}

-- bytes in order are numbers in order
less_byte : (x y : ℕ) → key_cmp (x ∷ []) (y ∷ []) ≡ Less → x < y
less_byte x y e = by (nat_cmp x y) refl
  where
    by : (r : Ordering) → nat_cmp x y ≡ r → x < y
    by Less f = grind (arith, nat_tests)
    by Equal f = absurd (let no : ordering_then Equal (key_cmp [] []) ≡ Less = rw f at e in cc)
    by Greater f = absurd (let no : ordering_then Greater (key_cmp [] []) ≡ Less = rw f at e in cc)

-- a filled key has a byte
filled_length : (k : List ℕ) → k ≢ [] → 1 ≤ length k
filled_length [] nonempty = absurd (nonempty refl)
filled_length (b ∷ k) nonempty = omega arith

module _ (item : List ℕ → Type 0) (kind : IsKeyKind item) where
  -- where items are bytes, the first item is the first byte
  first_is : AreSingle item → (i l : List ℕ) → item i → Begins i l
      → (i ≡ get_or l 0 256 ∷ []) × (get_or l 0 256 < 256)
  first_is single [] l p b = absurd (let one = single [] p in omega arith)
  first_is single (x ∷ y ∷ i) l p b = absurd (let one = single (x ∷ y ∷ i) p in omega arith)
  first_is single (x ∷ []) l p (rest, e) =
      let bytes = kind.bytes (x ∷ []) p in
      subst (λ k. (x ∷ [] ≡ get_or k 0 256 ∷ []) × (get_or k 0 256 < 256)) e (refl, bytes 0 256 (omega arith))

  -- the first byte of a label is a byte
  byte_below : AreSingle item → (l : List ℕ) → IsValid item l → l ≢ [] → get_or l 0 256 < 256
  byte_below single l valid nonempty = let first = first_of item l valid nonempty in (first_is single first.0 l first.1 first.2).1

  -- first items in order are first bytes in order
  bytes_rise : AreSingle item → (l m : List ℕ) → IsBefore item l m → get_or l 0 256 < get_or m 0 256
  bytes_rise single l m before =
      let x = first_is single before.first l before.first_item before.first_begins in
      let y = first_is single before.second m before.second_item before.second_begins in
      less_byte (get_or l 0 256) (get_or m 0 256) (ap (key_cmp (get_or l 0 256 ∷ [])) (sym y.0) ∙ ap (λ i. key_cmp i before.second) (sym x.0) ∙ before.less)

  -- a key before the label ends the search there
  stops_before : (l k : List ℕ) → IsBefore item k l → Matches item l k
  stops_before l k b = record {
    first = b.second;
    second = b.first;
    first_item = b.second_item;
    second_item = b.first_item;
    first_begins = b.second_begins;
    second_begins = b.first_begins;
    not_less = less_once item kind b.first b.second b.less;
  }

  -- so does a key that shares its first item
  stops_shared : (l k : List ℕ) → SharesItem item k l → Matches item l k
  stops_shared l k share = record {
    first = share.shared;
    second = share.shared;
    first_item = share.is_item;
    second_item = share.is_item;
    first_begins = share.begins_second;
    second_begins = share.begins_first;
    not_less = key_cmp-irreflexive share.shared share.shared refl;
  }

module _ (item : List ℕ → Type 0) (kind : IsKeyKind item) {V : Type 0} where
  -- past the last node nothing is counted
  pub counted_end : (k : List ℕ) (n : ℕ) → k ≢ [] → IsCounted {V = V} item end k n n
  counted_end k n nonempty = record {
    visited = [];
    visits = no_visits item kind k;
    is = omega arith;
    bounded = λ single. let some = filled_length k nonempty in omega arith;
  }

module _ (item : List ℕ → Type 0) (kind : IsKeyKind item) {V : Type 0} (l : List ℕ) (v : Option V)
    (c s : Siblings V) (ok : IsCanonical item (node l v c s)) (k : List ℕ) (nonempty : k ≢ [])
    (n b : ℕ) (ticked : b ≡ n + 1) where
  -- where the search ends at the label, one step is counted
  counted_stop : Matches item l k → ((t : List ℕ) → t ≢ [] → l ++ t ≡ k → ⊥)
      → IsCounted item (node l v c s) k n b
  counted_stop stop short = record {
    visited = l ∷ [];
    visits = visits_stop item kind _ _ _ l (splits item kind l v c s ok) k nonempty stop short;
    is = omega arith;
    bounded = λ single. let below = byte_below item kind single l ok.valid ok.nonempty in let some = filled_length k nonempty in omega arith;
  }

  -- where the key comes before the label, one step is counted
  pub counted_before : IsBefore item k l → IsCounted item (node l v c s) k n b
  counted_before before = counted_stop (stops_before item kind l k before) (λ t some e.
      let same = begins_same item kind before.first before.second k before.first_item
      before.second_item before.first_begins
      (Begins-trans before.second l k before.second_begins (t, e)) in
      key_cmp-irreflexive before.first before.second same before.less)

  -- and so where the key ends within it
  pub counted_within : (m : ℕ) → EndsWithin item k l m → IsCounted item (node l v c s) k n b
  counted_within m ends = counted_stop (stops_shared item kind l k ends.shares)
      (λ t some e. let long = common_whole item k l m ok.valid ends.common (t, e) in
      let short = ends.short in omega arith)

  -- and where the key is the label
  pub counted_here : (t : List ℕ) → Passes item k l t → t ≡ [] → IsCounted item (node l v c s) k n b
  counted_here t passes none = counted_stop (stops_shared item kind l k passes.shares)
      (λ u some e. some (append_cancel_left l u t (e ∙ sym passes.splits) ∙ none))

  -- past the label the rest of the siblings count on
  pub counted_past : (m : ℕ) → IsBefore item l k → IsCounted item s k b m
      → IsCounted item (node l v c s) k n m
  counted_past m before later = record {
    visited = l ∷ later.visited;
    visits = visits_past item kind _ _ _ l (splits item kind l v c s ok) k later.visited nonempty before later.visits;
    is = omega (arith, later.is);
    bounded = λ single. let rise = rises_next single s ok.rises in omega (arith, later.bounded single);
  }
    where
      rises_next : AreSingle item → (s : Siblings V) → IsBeforeSiblings item l s
          → get_or l 0 256 < first_byte s
      rises_next single end rises = byte_below item kind single l ok.valid ok.nonempty
      rises_next single (node m v' c' s') rises = bytes_rise item kind single l m rises

  -- and through it the children do
  pub counted_through : (m : ℕ) (t : List ℕ) → Passes item k l t → t ≢ [] → IsCounted item c t b m
      → IsCounted item (node l v c s) k n m
  counted_through m t passes some deeper = record {
    visited = l ∷ map (λ p. l ++ p) deeper.visited;
    visits = visits_through item kind _ _ _ l (splits item kind l v c s ok) k t deeper.visited some
        passes.splits (stops_shared item kind l k passes.shares)
        (AreVisits-same item kind _ _ (own_within v (entries c)) (within_own v (entries c)) t
        deeper.visited deeper.visits);
    is = omega (arith, deeper.is, length-map deeper.visited (λ p. l ++ p));
    bounded = λ single.
        let below = byte_below item kind single l ok.valid ok.nonempty in
        let long = filled_length l ok.nonempty in
        omega (arith, deeper.bounded single, length-map deeper.visited (λ p. l ++ p), length-append l t, ap length passes.splits);
  }

module _ (item : List ℕ → Type 0) (kind : IsKeyKind item) {V : Type 0} (v : Option V)
    (r : Siblings V) (ok : IsCanonical item r) where
  -- the keys of the map are those of the entries
  root_keys : keys (map_of v r) ≡ keys_of (own v ++ entries r)
  root_keys = ap keys_of (entries-from_sorted key_cmp (own v ++ entries r) (tree_sorted item kind v r ok))

  -- at the empty key the root is all
  pub counted_root : (k : List ℕ) → k ≡ [] → IsVisitCount item (keys (map_of v r)) k 1
  counted_root k none =
      let visits : AreVisits item (keys (map_of v r)) k [] = rw none (empty_visits item kind (keys (map_of v r))) in
      record { visited = []; once = visits.once; exactly = visits.exactly; is = refl }

  -- and at others the siblings count
  pub counted_siblings : (k : List ℕ) (n m : ℕ) (siblings : IsCounted item r k n m)
      → IsVisitCount item (keys (map_of v r)) k (1 + length siblings.visited)
  counted_siblings k n m siblings =
      let visits = AreVisits-same item kind (keys_of (entries r)) (keys_of (own v ++ entries r))
      (own_within v (entries r)) (within_own v (entries r)) k siblings.visited siblings.visits in
      let whole = subst (λ S. AreVisits item S k siblings.visited) (sym root_keys) visits in
      record { visited = siblings.visited; once = whole.once; exactly = whole.exactly; is = refl }
