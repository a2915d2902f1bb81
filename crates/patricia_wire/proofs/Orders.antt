-- How labels are ordered by their first items.
use Rattle.std.proofs.Common.{◌≡◌, ◌≢◌, ℕ, ◌⊎◌, inl, inr, List, [], refl, sym, ◌∙◌}
use Rattle.std.specs.declared.cmp.Ordering.{Ordering}
use Rattle.std.specs.declared.cmp.Ordering.TheVariants.{Less, Equal, Greater}
use Rattle.patricia_keys.specs.Keys.{IsKeyKind, IsValid, Begins, ComparesFirst, key_cmp}
use Rattle.patricia_keys.proofs.KeyLemmas.{begins_same, first_of}
use Rattle.patricia_model.specs.Siblings.{IsBefore}

-- an order is Less or another
less_or_not : (o : Ordering) → (o ≡ Less) ⊎ (o ≡ Less → ⊥)
less_or_not Less = inl refl
less_or_not Equal = inr (λ e. cc)
less_or_not Greater = inr (λ e. cc)

module _ (item : List ℕ → Type 0) where
  -- a label that comes before another has the lesser first item
  pub before_compares : (a b : List ℕ) → IsBefore item a b → ComparesFirst item a b Less
  before_compares a b x = record {
    first = x.first;
    second = x.second;
    first_of = inr (x.first_item, x.first_begins);
    second_of = inr (x.second_item, x.second_begins);
    is = sym x.less;
  }

  module _ (kind : IsKeyKind item) where
    -- of two labels that are not empty, the first comes before the other or does not
    pub before_or_not : (a b : List ℕ) → IsValid item a → IsValid item b → a ≢ [] → b ≢ []
        → IsBefore item a b ⊎ (IsBefore item a b → ⊥)
    before_or_not a b v u some other = go (first_of item a v some) (first_of item b u other)
      where
        go : (i : List ℕ) × (item i) × Begins i a → (j : List ℕ) × (item j) × Begins j b
            → IsBefore item a b ⊎ (IsBefore item a b → ⊥)
        go (i, p, x) (j, q, y) = elim (less_or_not (key_cmp i j)) [
          | inl less ↦ inl (record { first = i; second = j; first_item = p; second_item = q; first_begins = x; second_begins = y; less = less })
          | inr other_order ↦ inr (λ h. other_order (
              let same = begins_same item kind i h.first a p h.first_item x h.first_begins in
              let also = begins_same item kind j h.second b q h.second_item y h.second_begins in
              (λ k. key_cmp (same k) (also k)) ∙ h.less
              ))
        ]
