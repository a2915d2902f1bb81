-- Writable siblings are tight exactly where they keep the invariant with labels of at most 255
-- bytes.
use Rattle.std.proofs.Common.{◌≡◌, ℕ, ◌+◌, ◌⊎◌, inl, inr, true, false, List, [], ◌∷◌, ◌++◌, Option}
use Rattle.std.proofs.Common.{Some, None, length, refl, sym, ◌∙◌, arith}
use Rattle.std.specs.Prelude.{is_some}
use Rattle.std.proofs.lemmas.Bool.{cases_lt}
use Rattle.patricia_model.specs.Siblings.{Siblings, end, node, IsCanonicalWithin, EarnsWithin}
use Rattle.patricia_wire.specs.Records.{Record}
use Rattle.patricia_wire.specs.Internal.WrittenSiblings.{has_node, record_of, records_of}
use Rattle.patricia_wire.specs.Internal.WrittenSiblings.{IsWritable}
use Rattle.patricia_wire.specs.Writings.{StayApart}

-- the last record has no child
abbrev pub EndsLow : List Record → Type 0
EndsLow [] = Unit {0}
EndsLow (r ∷ []) = r.child ≡ false
EndsLow (r ∷ x ∷ R) = EndsLow (x ∷ R)

-- two lists that each end with a record without child do so together
EndsLow-append : (R X : List Record) → EndsLow R → EndsLow X → EndsLow (R ++ X)
EndsLow-append [] X a b = b
EndsLow-append (r ∷ []) [] a b = a
EndsLow-append (r ∷ []) (x ∷ X) a b = b
EndsLow-append (r ∷ y ∷ R) X a b = EndsLow-append (y ∷ R) X a b

module _ {V : Type 0} where
  -- the last record of siblings has no child
  pub ends_low : (d : ℕ) (r : Siblings V) → EndsLow (records_of d r)
  ends_low d end = tt
  ends_low d (node l v end end) = refl
  ends_low d (node l v end (node l' v' c' s')) = ends_low d (node l' v' c' s')
  ends_low d (node l v (node l' v' c' s') s) = EndsLow-append
      (records_of (d + 1) (node l' v' c' s')) (records_of d s)
      (ends_low (d + 1) (node l' v' c' s')) (ends_low d s)

module _ (item : List ℕ → Type 0) where
  -- where the first of two lists ends without a child, what stays apart in each does joined
  apart_append : (R X : List Record) → EndsLow R → StayApart item R → StayApart item X
      → StayApart item (R ++ X)
  apart_append [] X low a b = b
  apart_append (r ∷ []) [] low a b = tt
  apart_append (r ∷ []) (x ∷ X) low a b = (λ none child. (let h : true ≡ false = sym child ∙ low in absurd (cc)), b)
  apart_append (r ∷ y ∷ R) X low a b = (a.0, apart_append (y ∷ R) X low a.1 b)

  -- what stays apart in two lists together does in the first
  apart_left : (R X : List Record) → StayApart item (R ++ X) → StayApart item R
  apart_left [] X a = tt
  apart_left (r ∷ []) X a = tt
  apart_left (r ∷ y ∷ R) X a = (a.0, apart_left (y ∷ R) X a.1)

  -- what stays apart in a list does without its first record
  apart_rest : (r : Record) (R : List Record) → StayApart item (r ∷ R) → StayApart item R
  apart_rest r [] a = tt
  apart_rest r (x ∷ R) a = a.1

  -- what stays apart in two lists together does in the second
  apart_right : (R X : List Record) → StayApart item (R ++ X) → StayApart item X
  apart_right [] X a = a
  apart_right (r ∷ R) X a = apart_right R X (apart_rest r (R ++ X) a)

module _ (item : List ℕ → Type 0) {V : Type 0} where
  -- a node that earns its place has a value or a child
  marked : (l : List ℕ) (v : Option V) (c : Siblings V) → EarnsWithin item (Some 255) l v c
      → (is_some v ≡ true) ⊎ (has_node c ≡ true)
  marked l (Some v) c earns = inl refl
  marked l None end earns = absurd earns
  marked l None (node l' v' c' s') earns = inr refl

  -- siblings that are canonical within 255 bytes can be encoded
  pub within_writable : (r : Siblings V) → IsCanonicalWithin item (Some 255) r → IsWritable item r
  within_writable end ok = tt
  within_writable (node l v c s) ok = record {
    valid = ok.valid;
    nonempty = ok.nonempty;
    fits = ok.fits;
    marked = marked l v c ok.earns;
    rises = ok.rises;
    child = within_writable c ok.child;
    sibling = within_writable s ok.sibling;
  }

  -- a node joins none of its children
  apart_node : (d : ℕ) (l : List ℕ) (v : Option V) (c s : Siblings V)
      → EarnsWithin item (Some 255) l v c → StayApart item (records_of (d + 1) c ++ records_of d s)
      → StayApart item (records_of d (node l v c s))
  apart_node d l v end end earns apart = tt
  apart_node d l v end (node l1 v1 c1 s1) earns apart = (λ none child. absurd (cc), apart)
  apart_node d l (Some v) (node l1 v1 c1 s1) s earns apart = (λ none. absurd (cc), apart)
  apart_node d l None (node l1 v1 c1 end) s earns apart = (
    λ none child lone i is begun. elim (cases_lt 255 (length (l ++ i)))
        [ inl over ↦ over | inr room ↦ absurd (earns i is begun room) ],
    apart,
  )
  apart_node d l None (node l1 v1 c1 (node l2 v2 c2 s2)) s earns apart = (λ none child lone. absurd (cc), apart)

  -- and no neighbours of their records could be one
  pub within_apart : (d : ℕ) (r : Siblings V) → IsCanonicalWithin item (Some 255) r
      → StayApart item (records_of d r)
  within_apart d end ok = tt
  within_apart d (node l v c s) ok = apart_node d l v c s ok.earns
      (apart_append item (records_of (d + 1) c) (records_of d s) (ends_low (d + 1) c)
      (within_apart (d + 1) c ok.child) (within_apart d s ok.sibling))

  -- a node with a value or a child, whose records stay apart, earns its place
  earns_of : (d : ℕ) (l : List ℕ) (v : Option V) (c s : Siblings V)
      → (is_some v ≡ true) ⊎ (has_node c ≡ true) → StayApart item (records_of d (node l v c s))
      → EarnsWithin item (Some 255) l v c
  earns_of d l (Some x) c s mark apart = tt
  earns_of d l None end s mark apart = elim mark [
    | inl e ↦ absurd (cc)
    | inr e ↦ absurd (cc)
  ]
  earns_of d l None (node l1 v1 c1 end) s mark apart = λ i is begun room. (let over = apart.0 refl refl refl i is begun in omega arith)
  earns_of d l None (node l1 v1 c1 (node l2 v2 c2 s2)) s mark apart = tt

  -- and the other way round
  pub apart_within : (d : ℕ) (r : Siblings V) → IsWritable item r → StayApart item (records_of d r)
      → IsCanonicalWithin item (Some 255) r
  apart_within d end ok apart = tt
  apart_within d (node l v c s) ok apart =
      let rest = apart_rest item (record_of d l v c s) (records_of (d + 1) c ++ records_of d s) apart in
      record {
        valid = ok.valid;
        nonempty = ok.nonempty;
        fits = ok.fits;
        earns = earns_of d l v c s ok.marked apart;
        rises = ok.rises;
        child = apart_within (d + 1) c ok.child (apart_left item (records_of (d + 1) c) (records_of d s) rest);
        sibling = apart_within d s ok.sibling (apart_right item (records_of (d + 1) c) (records_of d s) rest);
      }
