-- What a look-up finds at a node, by how the key compares with its label.
use Rattle.std.proofs.Common.{◌≡◌, ℕ, ◌≤◌, ◌≢◌, inl, inr, List, [], ◌∷◌, ◌++◌, Option, Some, None}
use Rattle.std.proofs.Common.{length, take, drop, refl, sym, ap, subst, ◌∙◌, arith}
use Rattle.std.specs.declared.cmp.Ordering.TheVariants.{Less, Equal, Greater}
use Rattle.std.specs.Ordering.{ordering_reverse}
use Rattle.std.specs.Cmp.Lexicographic.{nat_list_cmp_total}
use Rattle.std.specs.FinMap.{find}
use Rattle.std.proofs.lemmas.List.{append-nil, take-append-drop, length-take-le, length-append}
use Rattle.std.proofs.lemmas.List.{take_at, nil_from_length}
use Rattle.patricia_keys.specs.Keys.{Begins, IsKeyKind, IsValid, IsCommon, ComparesFirst, key_cmp}
use Rattle.patricia_model.specs.Internal.LabelCmp.{SharesItem, EndsWithin, Passes}
use Rattle.patricia_model.specs.Siblings.{Siblings, node, prefixed, own, entries, IsBefore}
use Rattle.patricia_model.specs.Siblings.{IsCanonical}
use Rattle.patricia_keys.proofs.KeyLemmas.{key_cmp-irreflexive}
use Rattle.patricia_model.proofs.SiblingsLemmas.{AllKeys, AllKeys-append, AllKeys-prefixed}
use Rattle.patricia_model.proofs.SiblingsLemmas.{empty_lacks}
use Rattle.patricia_model.proofs.SiblingsLemmas.{lacks_item, lacks_empty}
use Rattle.patricia_model.proofs.ListLemmas.{IsBelow, key_cmp-equal, find_absent, find-append_left}
use Rattle.patricia_model.proofs.ListLemmas.{find-append_right, find-prefixed}
use Rattle.patricia_model.proofs.OrderLemmas.{IsBefore-less, below_siblings}

-- a key that is below each key is none of them
not_below : {V : Type 0} (q : List ℕ) (es : List (List ℕ × V)) → IsBelow q es
    → AllKeys (λ k. q ≡ k → ⊥) es
not_below q [] h = tt
not_below q (e ∷ es) h = (λ same. key_cmp-irreflexive q e.0 same h.0, not_below q es h.1)

module _ (item : List ℕ → Type 0) where
  -- of two keys with bytes, the one whose first item is found to be less comes before
  pub compared_less : (a b : List ℕ) → a ≢ [] → b ≢ [] → ComparesFirst item a b Less
      → IsBefore item a b
  compared_less a b p q c =
      elim c.first_of [
        | inl none ↦ absurd (p none.0)
        | inr one ↦ elim c.second_of [
          | inl none ↦ absurd (q none.0)
          | inr two ↦ record {
            first = c.first;
            second = c.second;
            first_item = one.0;
            second_item = two.0;
            first_begins = one.1;
            second_begins = two.1;
            less = sym c.is;
          }
        ]
      ]

  -- a greater first item puts the other key before
  pub compared_greater : (a b : List ℕ) → a ≢ [] → b ≢ [] → ComparesFirst item a b Greater
      → IsBefore item b a
  compared_greater a b p q c =
      elim c.first_of [
        | inl none ↦ absurd (p none.0)
        | inr one ↦ elim c.second_of [
          | inl none ↦ absurd (q none.0)
          | inr two ↦ record {
            first = c.second;
            second = c.first;
            first_item = two.0;
            second_item = one.0;
            first_begins = two.1;
            second_begins = one.1;
            less = turned c.first c.second (sym c.is);
          }
        ]
      ]
    where
      turned : (x y : List ℕ) → key_cmp x y ≡ Greater → key_cmp y x ≡ Less
      turned x y e = nat_list_cmp_total.antisymm y x ∙ ap ordering_reverse e

  -- equal first items are one shared item
  pub compared_equal : (a b : List ℕ) → a ≢ [] → b ≢ [] → ComparesFirst item a b Equal
      → SharesItem item a b
  compared_equal a b p q c =
      elim c.first_of [
        | inl none ↦ absurd (p none.0)
        | inr one ↦ elim c.second_of [
          | inl none ↦ absurd (q none.0)
          | inr two ↦ record {
            shared = c.first;
            is_item = one.0;
            begins_first = one.1;
            begins_second = subst (λ i. Begins i b)
                (sym (key_cmp-equal c.first c.second (sym c.is))) two.1;
          }
        ]
      ]

  -- a label that begins the key is common to both, whole
  pub common_whole : (q l : List ℕ) (n : ℕ) → IsValid item l → IsCommon item q l n → Begins l q
      → length l ≤ n
  common_whole q l n valid c begun =
      let whole : take (length l) q ≡ l = rw (← begun.1) (take_at l begun.0 (length l) refl) in
      let long = length-append l begun.0 in
      let total = ap length begun.1 in
      c.greatest (length l) (omega arith) (rw whole valid) ([], append-nil (take (length l) q) ∙ whole)

  -- where the common part is as long as the label, the label begins the key
  pub common_splits : (q l : List ℕ) (n : ℕ) → IsCommon item q l n → length l ≤ n
      → l ++ drop n q ≡ q
  common_splits q l n c long =
      let short = length-take-le n q c.within in
      let joined = length-append (take n q) c.begins.0 in
      let total = ap length c.begins.1 in
      let none : length c.begins.0 ≡ 0 = omega arith in
      let all : take n q ≡ l = sym (append-nil (take n q)) ∙ ap (λ r. take n q ++ r) (sym (nil_from_length c.begins.0 none)) ∙ c.begins.1 in
      ap (λ r. r ++ drop n q) (sym all) ∙ take-append-drop n q

module _ (item : List ℕ → Type 0) (kind : IsKeyKind item) {V : Type 0} where
  -- at the empty key stands the node's own value
  pub find_own : (v : Option V) (c : Siblings V) → IsCanonical item c
      → find key_cmp [] (own v ++ entries c) ≡ v
  find_own None c ok = find_absent [] (entries c) (empty_lacks (entries c) (lacks_empty item kind None c ok))
  find_own (Some x) c ok = refl

  -- and at other keys the children decide
  pub find_child : (t : List ℕ) (v : Option V) (c : Siblings V) → t ≢ []
      → find key_cmp t (own v ++ entries c) ≡ find key_cmp t (entries c)
  find_child t v c nonempty = find-append_left t (own v) (entries c) (none v)
    where
      none : (v : Option V) → find key_cmp t (own v) ≡ None
      none None = refl
      none (Some x) = find_absent t (own (Some x)) (nonempty, tt)

module _ (item : List ℕ → Type 0) (kind : IsKeyKind item) {V : Type 0} (l : List ℕ) (v : Option V)
    (c s : Siblings V) (ok : IsCanonical item (node l v c s)) where
  -- the key is not among the entries of a node before it, of siblings behind it, of siblings whose
  -- first label it ends within, and of the nodes past a label that begins it
  pub lacks_past : (q : List ℕ) → IsBefore item l q
      → AllKeys (λ k. q ≡ k → ⊥) (prefixed l (own v ++ entries c))
  lacks_past q before = AllKeys-prefixed _ l
      (λ t same. key_cmp-irreflexive (l ++ t) (q ++ []) (sym same ∙ sym (append-nil q))
      (IsBefore-less item kind l q t [] before)) _

  -- a key that comes before a label is in none of its siblings
  pub lacks_before : (q : List ℕ) → IsBefore item q l
      → AllKeys (λ k. q ≡ k → ⊥) (entries (node l v c s))
  lacks_before q before = not_below q _ (subst (λ k. IsBelow k (entries (node l v c s))) (append-nil q) (below_siblings item kind q [] (node l v c s) ok before))

  -- a key that shares a label's first item is in no later sibling
  pub later_lacks : (q : List ℕ) → SharesItem item q l → AllKeys (λ k. q ≡ k → ⊥) (entries s)
  later_lacks q share =
      turn (entries s) (lacks_item item kind None share.shared l share.is_item share.begins_second s ok.sibling ok.rises)
    where
      turn : (es : List (List ℕ × V)) → AllKeys (λ k. Begins share.shared k → ⊥) es
          → AllKeys (λ k. q ≡ k → ⊥) es
      turn [] h = tt
      turn (e ∷ es) h = (λ same. h.0 (subst (Begins share.shared) same share.begins_first), turn es h.1)

  -- a key that ends within a label is in none of the siblings
  pub lacks_within : (q : List ℕ) (n : ℕ) → EndsWithin item q l n
      → AllKeys (λ k. q ≡ k → ⊥) (entries (node l v c s))
  lacks_within q n ends =
      AllKeys-append _ (prefixed l (own v ++ entries c)) (entries s)
      (AllKeys-prefixed _ l (λ t same. let long = common_whole item q l n ok.valid ends.common (t, sym same) in let short = ends.short in omega arith) _)
      (later_lacks q ends.shares)

  -- a look-up goes past a sibling that comes before the key
  pub find_past : (q : List ℕ) → IsBefore item l q
      → find key_cmp q (entries (node l v c s)) ≡ find key_cmp q (entries s)
  find_past q before = find-append_left q (prefixed l (own v ++ entries c)) (entries s) (find_absent q _ (lacks_past q before))

  -- and finds nothing where the key comes before all siblings
  pub find_before : (q : List ℕ) → IsBefore item q l
      → find key_cmp q (entries (node l v c s)) ≡ None
  find_before q before = find_absent q _ (lacks_before q before)

  -- nor where the key ends within a label
  pub find_within : (q : List ℕ) (n : ℕ) → EndsWithin item q l n
      → find key_cmp q (entries (node l v c s)) ≡ None
  find_within q n ends = find_absent q _ (lacks_within q n ends)

  -- a key that begins with the label is looked up by its rest among the node's own and children
  find_through : (q t : List ℕ) → Passes item q l t
      → find key_cmp q (entries (node l v c s)) ≡ find key_cmp t (own v ++ entries c)
  find_through q t passes =
      find-append_right q (prefixed l (own v ++ entries c)) (entries s) (find_absent q _ (later_lacks q passes.shares))
      ∙ ap (λ k. find key_cmp k (prefixed l (own v ++ entries c))) (sym passes.splits)
      ∙ find-prefixed l t (own v ++ entries c)

  -- at the end of the key it finds the node's value
  pub find_here : (q t : List ℕ) → Passes item q l t → t ≡ []
      → find key_cmp q (entries (node l v c s)) ≡ v
  find_here q t passes none = find_through q t passes ∙ ap (λ k. find key_cmp k (own v ++ entries c)) none ∙ find_own item kind v c ok.child

  -- else it goes on among the children
  pub find_deeper : (q t : List ℕ) → Passes item q l t → t ≢ []
      → find key_cmp q (entries (node l v c s)) ≡ find key_cmp t (entries c)
  find_deeper q t passes nonempty = find_through q t passes ∙ find_child item kind t v c nonempty
