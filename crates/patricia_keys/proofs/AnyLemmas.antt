-- The first item of a key of any kind, and what is left of a key.
use Rattle.std.proofs.Common.{◌≡◌, ℕ, ◌+◌, ◌-◌, ◌<◌, ◌≤◌, inl, inr, List, ◌++◌, length, take, drop}
use Rattle.std.proofs.Common.{refl, sym, ap, subst, ◌∙◌, arith}
use Rattle.std.proofs.lemmas.Bool.{cases_lt}
use Rattle.std.proofs.lemmas.List.{append-nil, length-append, length-take-le, nil_from_length, take_at}
use Rattle.std.proofs.lemmas.List.{take-append-drop, take-take, take_all, length-drop}
use Rattle.patricia_keys.specs.Keys.{IsKeyKind, IsValid, IsFirstItem}
use Rattle.patricia_keys.proofs.KeyLemmas.{IsValid-item, first_of, valid_rest}

-- a slice of a key from a place behind whole items is valid
pub rest_valid : (item : List ℕ → Type 0) → IsKeyKind item → (k : List ℕ) (n : ℕ) → IsValid item k
    → IsValid item (take n k) → IsValid item (take (length k - n) (drop n k))
rest_valid item kind k n valid front =
    rw (take_all (length k - n) (drop n k) (omega (arith, length-drop n k)))
    (valid_rest item kind (take n k) (drop n k) front (rw (take-append-drop n k) valid))

module _ (item : List ℕ → Type 0) (k : List ℕ) (n : ℕ)
    (none : (m : ℕ) → 1 ≤ m → m ≤ n → IsValid item (take m k) → ⊥) where
  -- where no shorter front is valid, and neither is this one, none is so far
  pub none_yet : (IsValid item (take (n + 1) k) → ⊥) → (m : ℕ) → 1 ≤ m → m ≤ n + 1
      → IsValid item (take m k) → ⊥
  none_yet last m some within valid = elim (cases_lt m (n + 1)) [
    | inl below ↦ none m some (omega (arith, below)) valid
    | inr not_below ↦ let same : m ≡ n + 1 = omega (arith, not_below, within) in last (subst (λ i. IsValid item (take i k)) same valid)
  ]

  -- where no shorter front is valid, the first valid one is the first item
  pub first_found : IsKeyKind item → n < length k → IsValid item (take (n + 1) k)
      → IsFirstItem item k (take (n + 1) k)
  first_found kind short valid =
      let front = take (n + 1) k in
      let long : length front ≡ n + 1 = length-take-le (n + 1) k (omega (arith, short)) in
      let first = first_of item front valid (λ e. absurd (omega (arith, long, ap length e))) in
      let i = first.0 in
      let rest = first.2.0 in
      let sized = kind.sized i first.1 in
      let total : length i + length rest ≡ n + 1 = sym (length-append i rest) ∙ ap length first.2.1 ∙ long in
      elim (cases_lt (length i) (n + 1)) [
        | inl below ↦
            let i_is : take (length i) k ≡ i = sym (take-take (length i) (n + 1) k (omega (arith, below))) ∙ ap (take (length i)) (sym first.2.1) ∙ take_at i rest (length i) refl in
            absurd (none (length i) sized.0 (omega (arith, below)) (rw i_is (IsValid-item item i first.1)))
        | inr whole ↦
            let nil = nil_from_length rest (omega (arith, whole, total)) in
            let is : i ≡ front = sym (append-nil i) ∙ ap (λ r. i ++ r) (sym nil) ∙ first.2.1 in
            inr (subst item is first.1, (drop (n + 1) k, take-append-drop (n + 1) k))
      ]
