-- The entries of siblings strictly rise.
use Rattle.std.proofs.Common.{◌≡◌, ℕ, inl, inr, T, List, [], ◌∷◌, ◌++◌, Option, Some, None, refl}
use Rattle.std.proofs.Common.{sym, ap, ◌∙◌}
use Rattle.std.specs.declared.cmp.Ordering.TheVariants.{Less}
use Rattle.std.specs.FinMap.{is_sorted}
use Rattle.std.specs.FinMap.Entries.{below_all}
use Rattle.std.proofs.lemmas.List.{append_assoc, append-nil}
use Rattle.patricia_keys.specs.Keys.{IsKeyKind, key_cmp}
use Rattle.patricia_model.specs.Siblings.{Siblings, end, node, prefixed, own, entries, IsBefore}
use Rattle.patricia_model.specs.Siblings.{IsBeforeSiblings, IsCanonical}
use Rattle.patricia_keys.proofs.KeyLemmas.{key_cmp-irreflexive}
use Rattle.patricia_model.proofs.SiblingsLemmas.{AllKeys, AllKeys-append, AllKeys-prefixed}
use Rattle.patricia_model.proofs.SiblingsLemmas.{rises_on}
use Rattle.patricia_model.proofs.SiblingsLemmas.{lacks_empty}
use Rattle.patricia_model.proofs.ListLemmas.{IsBelow, key_cmp-extends, key_cmp-front}
use Rattle.patricia_model.proofs.ListLemmas.{below_all-from, both}
use Rattle.patricia_model.proofs.TestLemmas.{first_part, second_part}

-- the empty key comes before each other key
empty_first : (q : List ℕ) → (q ≡ [] → ⊥) → key_cmp [] q ≡ Less
empty_first [] h = absurd (h refl)
empty_first (b ∷ q) h = refl

module _ {V : Type 0} where
  -- a key that is below the entries of two lists is below those of both together
  below_append : (q : List ℕ) (xs ys : List (List ℕ × V)) → T (below_all key_cmp q xs)
      → IsBelow q ys → T (below_all key_cmp q (xs ++ ys))
  below_append q [] ys a b = below_all-from q ys b
  below_append q (x ∷ xs) ys a b = both _ _ (first_part _ _ a) (below_append q xs ys (second_part _ _ a) b)

  -- two sorted lists, each key of the first before the second, are sorted together
  pub sorted-append : (xs ys : List (List ℕ × V)) → T (is_sorted key_cmp xs)
      → T (is_sorted key_cmp ys) → AllKeys (λ q. IsBelow q ys) xs → T (is_sorted key_cmp (xs ++ ys))
  sorted-append [] ys a b c = b
  sorted-append (x ∷ xs) ys a b c = both _ _ (below_append x.0 xs ys (first_part _ _ a) c.0) (sorted-append xs ys (second_part _ _ a) b c.1)

  -- the same bytes before a key and before the keys above it leave it below them
  below-prefixed : (p q : List ℕ) (es : List (List ℕ × V)) → T (below_all key_cmp q es)
      → T (below_all key_cmp (p ++ q) (prefixed p es))
  below-prefixed p q [] a = tt
  below-prefixed p q (e ∷ es) a = both _ _ (rw key_cmp-front (first_part _ _ a)) (below-prefixed p q es (second_part _ _ a))

  -- a common prefix keeps entries sorted
  pub sorted-prefixed : (p : List ℕ) (es : List (List ℕ × V)) → T (is_sorted key_cmp es)
      → T (is_sorted key_cmp (prefixed p es))
  sorted-prefixed p [] a = tt
  sorted-prefixed p (e ∷ es) a = both _ _ (below-prefixed p e.0 es (first_part _ _ a)) (sorted-prefixed p es (second_part _ _ a))

module _ (item : List ℕ → Type 0) (kind : IsKeyKind item) where
  -- first items that differ decide
  pub IsBefore-less : (l m t u : List ℕ) → IsBefore item l m → key_cmp (l ++ t) (m ++ u) ≡ Less
  IsBefore-less l m t u b =
      let x = b.first_begins.0 in
      let y = b.second_begins.0 in
      let left : b.first ++ (x ++ t) ≡ l ++ t = sym (append_assoc b.first x t) ∙ ap (λ k. k ++ t) b.first_begins.1 in
      let right : b.second ++ (y ++ u) ≡ m ++ u = sym (append_assoc b.second y u) ∙ ap (λ k. k ++ u) b.second_begins.1 in
      elim (key_cmp-extends b.first b.second (x ++ t) (y ++ u) b.less) [
        | inl less ↦ rw (← left, ← right) less
        | inr begun ↦
            let none = kind.apart b.first begun.0 b.first_item (rw begun.1 b.second_item) in
            absurd (key_cmp-irreflexive b.first b.second (sym (append-nil b.first) ∙ ap (λ k. b.first ++ k) (sym none) ∙ begun.1) b.less)
      ]

module _ (item : List ℕ → Type 0) (kind : IsKeyKind item) {V : Type 0} where
  -- a key behind an earlier label is below the siblings
  pub below_siblings : (l t : List ℕ) (s : Siblings V) → IsCanonical item s → IsBeforeSiblings item l s
      → IsBelow (l ++ t) (entries s)
  below_siblings l t end ok before = tt
  below_siblings l t (node m v c s) ok before =
      AllKeys-append _ (prefixed m (own v ++ entries c)) (entries s)
      (AllKeys-prefixed _ m (λ u. IsBefore-less item kind l m t u before) (own v ++ entries c))
      (below_siblings l t s ok.sibling (rises_on item kind l m s before ok.rises))

  -- the value above the children comes before them
  pub below_own : (v : Option V) (c : Siblings V) → IsCanonical item c
      → AllKeys (λ q. IsBelow q (entries c)) (own v)
  below_own None c ok = tt
  below_own (Some x) c ok = (each (entries c) (lacks_empty item kind None c ok), tt)
    where
      each : (es : List (List ℕ × V)) → AllKeys (λ q. q ≡ [] → ⊥) es → IsBelow [] es
      each [] h = tt
      each (e ∷ es) h = (empty_first e.0 h.0, each es h.1)

  -- one value or none is sorted
  pub sorted_own : (v : Option V) → T (is_sorted key_cmp (own v))
  sorted_own None = tt
  sorted_own (Some x) = tt

  -- the entries of canonical siblings are sorted
  pub entries_sorted : (s : Siblings V) → IsCanonical item s → T (is_sorted key_cmp (entries s))
  entries_sorted end ok = tt
  entries_sorted (node m v c s) ok =
      sorted-append (prefixed m (own v ++ entries c)) (entries s)
      (sorted-prefixed m (own v ++ entries c) (sorted-append (own v) (entries c) (sorted_own v) (entries_sorted c ok.child) (below_own v c ok.child)))
      (entries_sorted s ok.sibling)
      (AllKeys-prefixed _ m (λ t. below_siblings m t s ok.sibling ok.rises) (own v ++ entries c))
