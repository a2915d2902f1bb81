-- Lists of numbers that are an order, and their inverses.
use Rattle.std.proofs.Common.{◌≡◌, ◌≢◌, ℕ, zero, suc, ◌+◌, ◌<◌, ◌≤◌, inl, inr, List, [], ◌∷◌, length}
use Rattle.std.proofs.Common.{set, Option, Some, slice_get, refl, sym, ap, ◌∙◌, arith}
use Rattle.std.proofs.Common.{length-set}
use Rattle.std.proofs.lemmas.Bool.{cases_eq, cases_lt}
use Rattle.std.proofs.lemmas.Bool.Decides.{nat_tests}
use Rattle.std.proofs.lemmas.Option.{slice_get_within}
use Rattle.patricia_nodes.specs.Internal.Plans.{one, times, below}
use Rattle.patricia_nodes.specs.Internal.Permutations.{IsOrder, AreInverse}
use Rattle.patricia_nodes.proofs.PlanLemmas.{one-same, below_le, below_in}
use Rattle.patricia_nodes.proofs.WriteLemmas.{get-set_same, get-set_other}

-- two items at one place are the same
same_item : {X : Type 0} (o : Option X) (x y : X) → o ≡ Some x → o ≡ Some y → x ≡ y
same_item o x y e f = cc

-- a number that is counted stands somewhere
pub stands_at : (xs : List ℕ) (at : ℕ) → 1 ≤ times xs at → (i : ℕ) × (slice_get xs i ≡ Some at)
stands_at [] at some = absurd (omega arith)
stands_at (x ∷ xs) at some = elim (cases_eq x at) [
  | inl e ↦ (0, ap (λ k. Some k) e)
  | inr n ↦ let none : one x at ≡ 0 = grind (arith, nat_tests) in let rest = stands_at xs at (omega (arith, none)) in (suc rest.0, rest.1)
]

-- a number that stands somewhere is counted
pub counts_at : (xs : List ℕ) (i at : ℕ) → slice_get xs i ≡ Some at → 1 ≤ times xs at
counts_at [] i at e = absurd (cc)
counts_at (x ∷ xs) zero at e =
    let same : x ≡ at = cc in omega (arith, one-same at, ap (λ k. one k at) same)
counts_at (x ∷ xs) (suc i) at e = omega (arith, counts_at xs i at e)

-- a number that is counted once stands at one place
pub one_place : (xs : List ℕ) (i j at : ℕ) → times xs at ≤ 1 → slice_get xs i ≡ Some at
    → slice_get xs j ≡ Some at → i ≡ j
one_place [] i j at once e f = absurd (cc)
one_place (x ∷ xs) zero zero at once e f = refl
one_place (x ∷ xs) zero (suc j) at once e f =
    let same : x ≡ at = cc in
    absurd (omega (arith, once, counts_at xs j at f, one-same at, ap (λ k. one k at) same))
one_place (x ∷ xs) (suc i) zero at once e f =
    let same : x ≡ at = cc in
    absurd (omega (arith, once, counts_at xs i at e, one-same at, ap (λ k. one k at) same))
one_place (x ∷ xs) (suc i) (suc j) at once e f = ap suc (one_place xs i j at (omega (arith, once)) e f)

-- below the length of an order each number stands in it
pub order_has : (order : List ℕ) (at : ℕ) → IsOrder order → at < length order
    → (i : ℕ) × (slice_get order i ≡ Some at)
order_has order at is short = stands_at order at (omega (arith, is at, below_in (length order) at short))

-- a number of an order is below its length
pub order_short : (order : List ℕ) (i at : ℕ) → IsOrder order → slice_get order i ≡ Some at
    → at < length order
order_short order i at is e = elim (cases_lt at (length order)) [
  | inl h ↦ h
  | inr h ↦ let none : below (length order) at ≡ 0 = grind (arith, nat_tests) in absurd (omega (arith, counts_at order i at e, is at, none))
]

-- the places of the first numbers of an order are known
pub record Placed (order places : List ℕ) (n : ℕ) : Type 0 where
  pub place : (i id : ℕ) → i < n → slice_get order i ≡ Some id → slice_get places id ≡ Some i
  pub long : length places ≡ length order

-- one more is known
pub placed_next : (order places : List ℕ) (n id : ℕ) → IsOrder order → Placed order places n
    → slice_get order n ≡ Some id → Placed order (set places id n) (n + 1)
placed_next order places n id is p e = record {
  place = λ i at short f. elim (cases_eq i n) [
    | inl same ↦ let here : at ≡ id = same_item (slice_get order n) at id (ap (slice_get order) (sym same) ∙ f) e in
        rw (here, same) (get-set_same places id n (omega (arith, p.long, order_short order n id is e)))
    | inr other ↦ get-set_other places id at n
        (λ z. other (one_place order i n id (omega (arith, is id, below_le (length order) id)) (f ∙ ap (λ k. Some k) z) e))
        ∙ p.place i at (omega (arith, short, other)) f
  ];
  long = length-set places id n ∙ p.long;
}

-- all are known
pub placed_all : (order places : List ℕ) (n : ℕ) → IsOrder order → Placed order places n
    → length order ≤ n → AreInverse order places
placed_all order places n is p all = record {
  place = λ i id e. p.place i id (omega (arith, all, slice_get_within order i id e)) e;
  number = λ i id e.
      let k = order_has order id is (omega (arith, p.long, slice_get_within places id i e)) in
      let there = p.place k.0 id (omega (arith, all, slice_get_within order k.0 id k.1)) k.1 in
      let same : k.0 ≡ i = same_item (slice_get places id) k.0 i there e in
      rw (← same) k.1;
  long = p.long;
}
