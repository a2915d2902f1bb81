-- The entries of siblings: how they begin, and which they are.
use Rattle.std.proofs.Common.{◌≡◌, ℕ, List, [], ◌∷◌, ◌++◌, Option, refl, sym, ap, ◌∙◌}
use Rattle.std.specs.Cmp.Lexicographic.{nat_list_cmp_total}
use Rattle.std.proofs.lemmas.List.{append_assoc}
use Rattle.patricia_keys.specs.Keys.{Begins, IsKeyKind}
use Rattle.patricia_model.specs.Siblings.{Siblings, end, node, prefixed, own, entries, IsBefore}
use Rattle.patricia_model.specs.Siblings.{IsBeforeSiblings, IsCanonicalWithin}
use Rattle.patricia_keys.proofs.KeyLemmas.{Begins-trans, key_cmp-irreflexive, begins_same}

module _ {V : Type 0} where
  -- a fact of each key
  abbrev pub AllKeys : (List ℕ → Type 0) → List (List ℕ × V) → Type 0
  AllKeys P [] = Unit {0}
  AllKeys P (e ∷ es) = P e.0 × AllKeys P es

  -- what is true of the keys of two lists is true of both joined
  pub AllKeys-append : (P : List ℕ → Type 0) (xs ys : List (List ℕ × V)) → AllKeys P xs
      → AllKeys P ys → AllKeys P (xs ++ ys)
  AllKeys-append P [] ys a b = b
  AllKeys-append P (x ∷ xs) ys a b = (a.0, AllKeys-append P xs ys a.1 b)

  -- and what is true of both is true of the first
  pub AllKeys-left : (P : List ℕ → Type 0) (xs ys : List (List ℕ × V)) → AllKeys P (xs ++ ys)
      → AllKeys P xs
  AllKeys-left P [] ys a = tt
  AllKeys-left P (x ∷ xs) ys a = (a.0, AllKeys-left P xs ys a.1)

  -- and of the second
  pub AllKeys-right : (P : List ℕ → Type 0) (xs ys : List (List ℕ × V)) → AllKeys P (xs ++ ys)
      → AllKeys P ys
  AllKeys-right P [] ys a = a
  AllKeys-right P (x ∷ xs) ys a = AllKeys-right P xs ys a.1

  -- what holds of each key that p begins holds of keys behind p
  pub AllKeys-prefixed : (P : List ℕ → Type 0) (p : List ℕ) → ((t : List ℕ) → P (p ++ t))
      → (es : List (List ℕ × V)) → AllKeys P (prefixed p es)
  AllKeys-prefixed P p all [] = tt
  AllKeys-prefixed P p all (e ∷ es) = (all e.0, AllKeys-prefixed P p all es)

  -- where no key is empty, the empty key is none of them
  pub empty_lacks : (es : List (List ℕ × V)) → AllKeys (λ k. k ≡ [] → ⊥) es
      → AllKeys (λ k. [] ≡ k → ⊥) es
  empty_lacks [] h = tt
  empty_lacks (e ∷ es) h = (λ same. h.0 (sym same), empty_lacks es h.1)

  -- the empty prefix begins each key
  pub all_begin : (es : List (List ℕ × V)) → AllKeys (Begins []) es
  all_begin [] = tt
  all_begin (e ∷ es) = ((e.0, refl), all_begin es)

  -- bytes before bytes before keys are both before the keys
  pub prefixed-prefixed : (p q : List ℕ) (es : List (List ℕ × V))
      → prefixed p (prefixed q es) ≡ prefixed (p ++ q) es
  prefixed-prefixed p q [] = refl
  prefixed-prefixed p q (e ∷ es) = let key = append_assoc p q e.0 in let rest = prefixed-prefixed p q es in cc

  -- bytes before the keys of two lists are before those of both together
  pub prefixed-append : (p : List ℕ) (xs ys : List (List ℕ × V))
      → prefixed p (xs ++ ys) ≡ prefixed p xs ++ prefixed p ys
  prefixed-append p [] ys = refl
  prefixed-append p (x ∷ xs) ys = ap (λ r. (p ++ x.0, x.1) ∷ r) (prefixed-append p xs ys)

module _ (item : List ℕ → Type 0) (kind : IsKeyKind item) where
  -- what comes before a key comes before all that the key comes before
  pub IsBefore-trans : (a b c : List ℕ) → IsBefore item a b → IsBefore item b c → IsBefore item a c
  IsBefore-trans a b c x y =
      let same = begins_same item kind x.second y.first b x.second_item y.first_item x.second_begins y.first_begins in
      record {
        first = x.first;
        second = y.second;
        first_item = x.first_item;
        second_item = y.second_item;
        first_begins = x.first_begins;
        second_begins = y.second_begins;
        less = nat_list_cmp_total.trans x.first y.first y.second (rw (← same) x.less) y.less;
      }

module _ (item : List ℕ → Type 0) (kind : IsKeyKind item) {V : Type 0} where
  -- past a label, the rest of its siblings are behind the first item of what comes before the label
  pub rises_on : (k l : List ℕ) (s : Siblings V) → IsBefore item k l → IsBeforeSiblings item l s
      → IsBeforeSiblings item k s
  rises_on k l end a b = tt
  rises_on k l (node m v c s) a b = IsBefore-trans item kind k l m a b

module _ (item : List ℕ → Type 0) (kind : IsKeyKind item) (limit : Option ℕ) {V : Type 0} where
  -- an item that begins a label before the siblings begins no key of theirs
  pub lacks_item : (i k : List ℕ) → item i → Begins i k → (s : Siblings V)
      → IsCanonicalWithin item limit s → IsBeforeSiblings item k s
      → AllKeys (λ q. Begins i q → ⊥) (entries s)
  lacks_item i k p a end ok before = tt
  lacks_item i k p a (node m v c s) ok before =
      AllKeys-append _ (prefixed m (own v ++ entries c)) (entries s)
      (AllKeys-prefixed _ m (λ t begun.
      let first = begins_same item kind i before.first k p before.first_item a before.first_begins in
      let second = begins_same item kind i before.second (m ++ t) p before.second_item begun
      (Begins-trans before.second m (m ++ t) before.second_begins (t, refl)) in
      key_cmp-irreflexive before.first before.second (sym first ∙ second) before.less) (own v ++ entries c))
      (lacks_item i k p a s ok.sibling (rises_on item kind k m s before ok.rises))

  -- no entry of siblings is that of the empty key
  pub lacks_empty : (s : Siblings V) → IsCanonicalWithin item limit s
      → AllKeys (λ q. q ≡ [] → ⊥) (entries s)
  lacks_empty end ok = tt
  lacks_empty (node m v c s) ok =
      AllKeys-append _ (prefixed m (own v ++ entries c)) (entries s)
      (AllKeys-prefixed _ m (λ t none. ok.nonempty (front m t none)) (own v ++ entries c))
      (lacks_empty s ok.sibling)
    where
      front : (a b : List ℕ) → a ++ b ≡ [] → a ≡ []
      front [] b e = refl
      front (x ∷ a) b e = absurd (cc)
