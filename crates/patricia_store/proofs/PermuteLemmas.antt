-- Items that are laid in another order.
use Rattle.std.proofs.Common.{◌≡◌, ◌≢◌, ℕ, ◌+◌, ◌<◌, ◌≤◌, inl, inr, List, [], ◌∷◌, length}
use Rattle.std.proofs.Common.{set, swap, get_or, Option, Some, slice_get, refl, sym, ap, ◌∙◌, arith}
use Rattle.std.proofs.Common.{length-set}
use Rattle.std.proofs.lemmas.Bool.{cases_eq}
use Rattle.std.proofs.lemmas.List.Edits.{swap_is, length-swap}
use Rattle.std.proofs.lemmas.Option.{slice_get_within, slice_get-get_or}
use Rattle.patricia_store.specs.Internal.Permutations.{AreInverse, Gathers}
use Rattle.patricia_store.proofs.WriteLemmas.{get-set_same, get-set_other}

-- two items at one place are the same
pub same_item : {X : Type 0} (o : Option X) (x y : X) → o ≡ Some x → o ≡ Some y → x ≡ y
same_item o x y e f = cc

module _ {X : Type 0} where
  -- what two items in each other's place leave
  swapped : (xs : List X) (i j : ℕ) (d : X) → i < length xs → j < length xs
      → swap xs i j ≡ set (set xs i (get_or xs j d)) j (get_or xs i d)
  swapped xs i j d hi hj = sym (swap_is xs i j d hi hj)

  -- the second of two items that were swapped is that which was the first
  pub get-swap_second : (xs : List X) (i j : ℕ) → i < length xs → j < length xs
      → slice_get (swap xs i j) j ≡ slice_get xs i
  get-swap_second [] i j hi hj = absurd (omega arith)
  get-swap_second (d ∷ ys) i j hi hj =
      let xs = d ∷ ys in
      ap (λ l. slice_get l j) (swapped xs i j d hi hj)
      ∙ get-set_same (set xs i (get_or xs j d)) j (get_or xs i d) (omega (arith, hj, length-set xs i (get_or xs j d)))
      ∙ sym (slice_get-get_or xs i d hi)

  -- and the first is that which was the second
  pub get-swap_first : (xs : List X) (i j : ℕ) → i < length xs → j < length xs
      → slice_get (swap xs i j) i ≡ slice_get xs j
  get-swap_first [] i j hi hj = absurd (omega arith)
  get-swap_first (d ∷ ys) i j hi hj =
      let xs = d ∷ ys in
      elim (cases_eq i j) [
        | inl same ↦ rw (← same) (get-swap_second xs i i hi hi)
        | inr other ↦ ap (λ l. slice_get l i) (swapped xs i j d hi hj)
            ∙ get-set_other (set xs i (get_or xs j d)) j i (get_or xs i d) other
            ∙ get-set_same xs i (get_or xs j d) hi
            ∙ sym (slice_get-get_or xs j d hj)
      ]

  -- the others stay
  pub get-swap_other : (xs : List X) (i j k : ℕ) → i < length xs → j < length xs → k ≢ i → k ≢ j
      → slice_get (swap xs i j) k ≡ slice_get xs k
  get-swap_other [] i j k hi hj ni nj = absurd (omega arith)
  get-swap_other (d ∷ ys) i j k hi hj ni nj =
      let xs = d ∷ ys in
      ap (λ l. slice_get l k) (swapped xs i j d hi hj)
      ∙ get-set_other (set xs i (get_or xs j d)) j k (get_or xs i d) nj
      ∙ get-set_other xs i k (get_or xs j d) ni

  -- the first items are where they belong, and the two lists say where the others are
  pub record Permuting (order0 : List ℕ) (old : List X) (n : ℕ) (order places : List ℕ)
      (new : List X) : Type 0 where
    pub done : (i id : ℕ) → i < n → slice_get order0 i ≡ Some id → slice_get new i ≡ slice_get old id
    pub left : (i id k : ℕ) → n ≤ i → slice_get order0 i ≡ Some id → slice_get order i ≡ Some k
        → slice_get new k ≡ slice_get old id
    pub place : (i k : ℕ) → n ≤ i → slice_get order i ≡ Some k
        → (n ≤ k) × (slice_get places k ≡ Some i)
    pub number : (i k : ℕ) → n ≤ k → slice_get places k ≡ Some i
        → (n ≤ i) × (slice_get order i ≡ Some k)
    pub order_long : length order ≡ length old
    pub places_long : length places ≡ length old
    pub long : length new ≡ length old

  -- at first all are where they were
  pub permuting_none : (order places : List ℕ) (old : List X) → AreInverse order places
      → length order ≡ length old → Permuting order old 0 order places old
  permuting_none order places old inv long = record {
    done = λ i id short e. absurd (omega arith);
    left = λ i id k h e f. ap (slice_get old) (same_item (slice_get order i) k id f e);
    place = λ i k h e. (omega arith, inv.place i k e);
    number = λ i k h e. (omega arith, inv.number i k e);
    order_long = long;
    places_long = inv.long ∙ long;
    long = refl;
  }

  -- one more comes to its place
  pub permuting_next : (order0 : List ℕ) (old : List X) (n : ℕ) (order places : List ℕ)
      (new : List X) (from to : ℕ) → Permuting order0 old n order places new
      → slice_get order n ≡ Some from → slice_get places n ≡ Some to
      → Permuting order0 old (n + 1) (set order to from) (set places from to) (swap new n from)
  permuting_next order0 old n order places new from to p e f =
      let there = p.place n from (omega arith) e in
      let back = p.number to n (omega arith) f in
      let short : n < length new = omega (arith, p.long, p.order_long, slice_get_within order n from e) in
      let from_short : from < length new = omega (arith, p.long, p.places_long, slice_get_within places from n there.1) in
      let to_short : to < length order = slice_get_within order to n back.1 in
      let from_in : from < length places = slice_get_within places from n there.1 in
      record {
        done = λ i id less g. elim (cases_eq i n) [
          | inl same ↦ ap (slice_get (swap new n from)) same ∙ get-swap_first new n from short from_short
              ∙ p.left n id from (omega arith) (ap (slice_get order0) (sym same) ∙ g) e
          | inr other ↦ get-swap_other new n from i short from_short other (λ z. absurd (omega (arith, less, other, z, there.0)))
              ∙ p.done i id (omega (arith, less, other)) g
        ];
        left = λ i id k more g h. elim (cases_eq i to) [
          | inl same ↦ let is : k ≡ from = same_item (slice_get (set order to from) to) k from (ap (slice_get (set order to from)) (sym same) ∙ h) (get-set_same order to from to_short) in
              ap (slice_get (swap new n from)) is ∙ get-swap_second new n from short from_short
              ∙ p.left i id n (omega (arith, more)) g (ap (slice_get order) same ∙ back.1)
          | inr other ↦ let at = sym (get-set_other order to i from other) ∙ h in
              let k_there = p.place i k (omega (arith, more)) at in
              get-swap_other new n from k short from_short
              (λ z. other (same_item (slice_get places n) i to (ap (slice_get places) (sym z) ∙ k_there.1) f))
              (λ z. absurd (let is : i ≡ n = same_item (slice_get places from) i n (ap (slice_get places) (sym z) ∙ k_there.1) there.1 in omega (arith, is, more)))
              ∙ p.left i id k (omega (arith, more)) g at
        ];
        place = λ i k more h. elim (cases_eq i to) [
          | inl same ↦ let is : k ≡ from = same_item (slice_get (set order to from) to) k from (ap (slice_get (set order to from)) (sym same) ∙ h) (get-set_same order to from to_short) in (
            elim (cases_eq from n) [
              | inl z ↦ absurd (let turn : to ≡ n = same_item (slice_get places n) to n f (ap (slice_get places) (sym z) ∙ there.1) in omega (arith, turn, same, more))
              | inr z ↦ omega (arith, z, there.0, is)
            ],
            ap (slice_get (set places from to)) is ∙ get-set_same places from to from_in ∙ ap (λ x. Some x) (sym same),
          )
          | inr other ↦ let at = sym (get-set_other order to i from other) ∙ h in
              let k_there = p.place i k (omega (arith, more)) at in (
                elim (cases_eq k n) [
                  | inl z ↦ absurd (other (same_item (slice_get places n) i to (ap (slice_get places) (sym z) ∙ k_there.1) f))
                  | inr z ↦ omega (arith, z, k_there.0)
                ],
                get-set_other places from k to (λ z. absurd (let is : i ≡ n = same_item (slice_get places from) i n (ap (slice_get places) (sym z) ∙ k_there.1) there.1 in omega (arith, is, more))) ∙ k_there.1,
              )
        ];
        number = λ i k more h. elim (cases_eq k from) [
          | inl same ↦ let is : i ≡ to = same_item (slice_get (set places from to) from) i to (ap (slice_get (set places from to)) (sym same) ∙ h) (get-set_same places from to from_in) in (
            elim (cases_eq to n) [
              | inl z ↦ absurd (let turn : from ≡ n = same_item (slice_get order n) from n e (ap (slice_get order) (sym z) ∙ back.1) in omega (arith, turn, same, more))
              | inr z ↦ omega (arith, z, back.0, is)
            ],
            ap (slice_get (set order to from)) is ∙ get-set_same order to from to_short ∙ ap (λ x. Some x) (sym same),
          )
          | inr other ↦ let at = sym (get-set_other places from k to other) ∙ h in
              let i_there = p.number i k (omega (arith, more)) at in (
                elim (cases_eq i n) [
                  | inl z ↦ absurd (other (same_item (slice_get order n) k from (ap (slice_get order) (sym z) ∙ i_there.1) e))
                  | inr z ↦ omega (arith, z, i_there.0)
                ],
                get-set_other order to i from (λ z. absurd (let is : k ≡ n = same_item (slice_get order to) k n (ap (slice_get order) (sym z) ∙ i_there.1) back.1 in omega (arith, is, more))) ∙ i_there.1,
              )
        ];
        order_long = length-set order to from ∙ p.order_long;
        places_long = length-set places from to ∙ p.places_long;
        long = length-swap new n from ∙ p.long;
      }

  -- at the end all are where they belong
  pub permuting_all : (order0 : List ℕ) (old : List X) (n : ℕ) (order places : List ℕ)
      (new : List X) → Permuting order0 old n order places new → length order0 ≡ length old
      → length old ≤ n → Gathers order0 old new
  permuting_all order0 old n order places new p long all = record {
    item = λ i id e. p.done i id (omega (arith, all, long, slice_get_within order0 i id e)) e;
    long = p.long;
  }
