-- The rules of a record, tried in the order of their numbers.
use Rattle.std.proofs.Common.{◌≡◌, ◌≢◌, inl, inr, ℕ, zero, suc, ◌+◌, ◌<◌, ◌≤◌, true, false, List}
use Rattle.std.proofs.Common.{[], ◌∷◌, ◌++◌, length, take, drop, length-take, length-append}
use Rattle.std.proofs.Common.{take-append-drop, take_all, refl, sym, ap, subst, ◌∙◌, arith}
use Rattle.std.proofs.Common.{append-nil}
use Rattle.std.specs.Prelude.{◌↔◌, Result, Ok, Err, IfErr, IsErrAnd, Bool, ◌&&◌, not, eqb, ◌==◌}
use Rattle.std.proofs.lemmas.Bool.{cases_lt}
use Rattle.std.proofs.lemmas.Bool.Decides.{nat_tests}
use Rattle.std.proofs.lemmas.List.{nil_from_length}
use Rattle.std.specs.declared.cmp.Ordering.TheVariants.{Less, Equal, Greater}
use Rattle.std.specs.declared.cmp.Ordering.{Ordering}
use Rattle.std.proofs.Common.{is_lt}
use Rattle.patricia_keys.specs.Keys.{IsKeyKind, IsValid, IsFirstItem, ComparesFirst, Begins}
use Rattle.patricia_keys.specs.Keys.{key_cmp}
use Rattle.patricia_keys.proofs.KeyLemmas.{begins_same, first_of, IsValid-item}
use Rattle.patricia_wire.specs.Records.{Record}
use Rattle.patricia_wire.specs.Internal.Readings.{level, root_label, root_sibling}
use Rattle.patricia_wire.specs.Internal.Readings.{empty_label, invalid_label, sibling_order}
use Rattle.patricia_wire.specs.Internal.Readings.{no_value_no_child, too_few_values, Due}
use Rattle.patricia_wire.specs.Internal.Readings.{BreaksRule, BreaksNone, BreaksNoneBelow}
use Rattle.patricia_wire.specs.declared.error.DecodeError.{DecodeError}
use Rattle.patricia_wire.proofs.Orders.{before_compares}
use Rattle.patricia_wire.proofs.Rules.{below_level, kept_next, kept_all}
use Rattle.patricia_codec.specs.Internal.Steps.{NamesFirst, BreaksLabel, KeepsLabel}

-- what the first n bytes of a label begin with, the label begins with
take_front : (n : ℕ) (label i rest : List ℕ) → i ++ rest ≡ take n label → take (length i) label ≡ i
take_front n label [] rest e = refl
take_front zero label (y ∷ i) rest e = absurd (cc)
take_front (suc n) [] (y ∷ i) rest e = absurd (cc)
take_front (suc n) (z ∷ label) (y ∷ i) rest e =
    let head : y ≡ z = cc in
    let tails : i ++ rest ≡ take n label = cc in
    (λ j. sym head j ∷ take_front n label i rest tails j)

module _ (item : List ℕ → Type 0) (kind : IsKeyKind item) where
  -- the fewest bytes that are valid are an item
  pub fewest_item : (label : List ℕ) (n : ℕ) → 1 ≤ n → n ≤ length label
      → ((m : ℕ) → 1 ≤ m → m < n → IsValid item (take m label) → ⊥) → IsValid item (take n label)
      → IsFirstItem item label (take n label)
  fewest_item label n some within fewest valid =
      by (first_of item (take n label) valid
      (λ none. omega (arith, some, within, length-take n label, ap length none)))
    where
      by : (i : List ℕ) × (item i) × Begins i (take n label) → IsFirstItem item label (take n label)
      by (i, is_item, (rest, joins)) = go rest joins
        where
          sized : (1 ≤ length i) × (length i ≤ 255)
          sized = kind.sized i is_item

          whole : Begins (take n label) label
          whole = (drop n label, take-append-drop n label)

          go : (rest : List ℕ) → i ++ rest ≡ take n label → IsFirstItem item label (take n label)
          go [] e = (let same = sym (append-nil i) ∙ e in inr (subst item same is_item, whole))
          go (x ∷ rest) e =
              let size = length-append i (x ∷ rest) in
              let shorter : take (length i) label ≡ i = take_front n label i (x ∷ rest) e in
              absurd (fewest (length i) sized.0
              (omega (arith, size, ap length e, length-take n label))
              (subst (IsValid item) (sym shorter) (IsValid-item item i is_item)))

  -- the first items tell which label comes before the other
  pub first_items : (a b i j : List ℕ) → a ≢ [] → b ≢ [] → IsFirstItem item a i
      → IsFirstItem item b j → (key_cmp i j ≡ Less) ↔ ComparesFirst item a b Less
  first_items a b i j some other x y = (
    λ less. record { first = i; second = j; first_of = x; second_of = y; is = sym less },
    λ compared. (
        let same = one_first_item a i compared.first some x compared.first_of in
        let also = one_first_item b j compared.second other y compared.second_of in
        (λ k. key_cmp (same k) (also k)) ∙ sym compared.is
        ),
  )
    where
      one_first_item : (l i j : List ℕ) → l ≢ [] → IsFirstItem item l i → IsFirstItem item l j
          → i ≡ j
      one_first_item l i j some x y = elim x [
        | inl none ↦ absurd (some none.0)
        | inr first ↦ elim y [
          | inl none ↦ absurd (some none.0)
          | inr second ↦ begins_same item kind i j l first.0 second.0 first.1 second.1
        ]
      ]

-- where two tests hold together, each holds
both : (a b : Bool) → a && b ≡ true → (a ≡ true) × (b ≡ true)
both true b e = (refl, e)
both false b e = absurd (cc)

-- of two tests that do not both hold, the second fails where the first holds
not_both : (a b : Bool) → a && b ≡ false → a ≡ true → b ≡ false
not_both true b e t = e
not_both false b e t = absurd (cc)

-- numbers that are found equal are equal
tested : (n m : ℕ) → eqb n m ≡ true → n ≡ m
tested n m e = grind (arith, nat_tests)

-- equal numbers are found equal
test_same : (n m : ℕ) → n ≡ m → eqb n m ≡ true
test_same n m e = grind (arith, nat_tests)

-- numbers that differ are found to differ
test_other : (n m : ℕ) → n ≢ m → not (eqb n m) ≡ true
test_other n m e = grind (arith, nat_tests)

-- numbers that are found to differ do
tested_other : (n m : ℕ) → not (eqb n m) ≡ true → n ≢ m
tested_other n m e = λ same. (let t = test_same n m same in cc)

-- what is found of a level of 0 and of a mark holds of each
level_zero : (n : ℕ) (b : Bool) → eqb n 0 && b ≡ true → (n ≡ 0) × (b ≡ true)
level_zero n b e = (let parts = both (eqb n 0) b e in (tested n 0 parts.0, parts.1))

-- where it is not found, and the level is 0, the mark is unset
level_zero_not : (n : ℕ) (b : Bool) → eqb n 0 && b ≡ false → n ≡ 0 → b ≡ false
level_zero_not n b e z = not_both (eqb n 0) b e (test_same n 0 z)

-- what is found of a level that is not 0 and of a mark holds of each
level_some : (n : ℕ) (b : Bool) → not (eqb n 0) && b ≡ true → (n ≢ 0) × (b ≡ true)
level_some n b e = (let parts = both (not (eqb n 0)) b e in (tested_other n 0 parts.0, parts.1))

-- a label whose length is found to be 0 is empty
is_nil : (l : List ℕ) (b : Bool) → b ≡ (length l == 0) → b ≡ true → l ≡ []
is_nil l b is t = nil_from_length l (tested (length l) 0 (sym is ∙ t))

-- and one whose length is not has bytes
not_nil : (l : List ℕ) (b : Bool) → b ≡ (length l == 0) → b ≡ false → l ≢ []
not_nil l b is f = λ none. (let t = test_same (length l) 0 (ap length none) in let h : true ≡ false = sym t ∙ sym is ∙ f in cc)

-- a mark whose opposite is set is unset
not_true : (b : Bool) → not b ≡ true → b ≡ false
not_true true e = absurd (cc)
not_true false e = refl

-- and one whose opposite is unset is set
not_false : (b : Bool) → not b ≡ false → b ≡ true
not_false true e = refl
not_false false e = absurd (cc)

module _ (item : List ℕ → Type 0) (due : Due) (left : ℕ) (r : Record) where
  -- a record at the level that is due keeps the rules below number 4
  pub kept_level : r.level ≡ due.level → BreaksNoneBelow item due left r 4
  kept_level e = kept_next item due left r level (below_level item due left r) (λ b. b e)

  -- a root without a label keeps the rules below number 5
  pub kept_root_label : r.level ≡ due.level → (b : Bool) → b ≡ (length r.label == 0)
      → eqb due.level 0 && not b ≡ false → BreaksNoneBelow item due left r 5
  kept_root_label e b is f = kept_next item due left r root_label (kept_level e)
      (λ (z, some). some (is_nil r.label b is (not_false b (level_zero_not due.level (not b) f z))))

  -- and one without a sibling those below 6
  pub kept_root_sibling : BreaksNoneBelow item due left r 5 → eqb due.level 0 && r.sibling ≡ false
      → BreaksNoneBelow item due left r 6
  kept_root_sibling below f = kept_next item due left r root_sibling below
      (λ (z, some).
      (let none = level_zero_not due.level r.sibling f z in
      let h : true ≡ false = sym some ∙ none in cc))

  -- a root with a label breaks that rule
  pub breaks_root_label : (b : Bool) → b ≡ (length r.label == 0) → eqb due.level 0 && not b ≡ true
      → BreaksRule item due left r root_label
  breaks_root_label b is t = (let both = level_zero due.level (not b) t in (both.0, not_nil r.label b is (not_true b both.1)))

  -- and so does one with a sibling
  pub breaks_root_sibling : eqb due.level 0 && r.sibling ≡ true
      → BreaksRule item due left r root_sibling
  breaks_root_sibling t = level_zero due.level r.sibling t

  -- a record below the root without a label breaks that rule
  pub breaks_empty_label : (b : Bool) → b ≡ (length r.label == 0)
      → not (eqb due.level 0) && b ≡ true → BreaksRule item due left r empty_label
  breaks_empty_label b is t = (let both = level_some due.level b t in (both.0, is_nil r.label b is both.1))

-- where the first n bytes of a label are not valid, the fewest valid are at least one more
pub one_more_not : (item : List ℕ → Type 0) (label : List ℕ) (n : ℕ) → 1 ≤ n → n ≤ length label
    → ((m : ℕ) → 1 ≤ m → m < n → IsValid item (take m label) → ⊥) → IsValid item label
    → (IsValid item (take n label) → ⊥)
    → record { some : 1 ≤ n + 1; within : n + 1 ≤ length label; fewest : (m : ℕ) → 1 ≤ m → m < n + 1 → IsValid item (take m label) → ⊥ }
one_more_not item label n some within fewest valid fails = record {
  some = omega arith;
  within = elim (cases_lt n (length label)) [
    | inl less ↦ omega (arith, less)
    | inr most ↦ absurd (fails (subst (IsValid item) (sym (take_all n label most)) valid))
  ];
  fewest = λ m one less here. elim (cases_lt m n) [
    | inl fewer ↦ fewest m one fewer here
    | inr no_less ↦ fails (subst (λ k. IsValid item (take k label)) (omega (arith, less, no_less)) here)
  ];
}

-- what holds of the error that is passed up holds of the result's error
pub handed_on : {T E : Type 0} (P : E → Type 0) (out : Result T E) (e : E)
    → IsErrAnd out (λ x. x ≡ e) → P e → IfErr out P
handed_on P (Ok x) e is h = tt
handed_on P (Err x) e is h = subst P (sym is) h

module _ (item : List ℕ → Type 0) (due : Due) (left : ℕ) (r : Record) where
  -- where a record keeps the rules below 7, the error of its label names the first it breaks
  pub broken_label : BreaksNoneBelow item due left r 7 → (offset : ℕ) (e : DecodeError)
      → BreaksLabel item due r.label offset e → NamesFirst item due left r offset e
  broken_label below offset e broken = elim broken [
    | inl b ↦ record { rule = invalid_label; names = b.0; broken = (b.1, below) }
    | inr b ↦ (let valid = b.1 in record { rule = sibling_order; names = b.0; broken = (b.2, kept_next item due left r invalid_label below (λ h. h valid)) })
  ]

  -- a label that is valid and in order keeps the rules below number 9
  pub kept_label : BreaksNoneBelow item due left r 7 → KeepsLabel item due r.label
      → BreaksNoneBelow item due left r 9
  kept_label below kept = kept_next item due left r sibling_order
      (kept_next item due left r invalid_label below (λ h. h kept.0))
      (λ (l, is, not_before). not_before (before_compares item l r.label (kept.1 l is)))

  -- a record below the root with neither value nor child breaks that rule
  pub breaks_marks : (not (eqb due.level 0) && not r.value) && not r.child ≡ true
      → BreaksRule item due left r no_value_no_child
  breaks_marks t =
      let outer = both (not (eqb due.level 0) && not r.value) (not r.child) t in
      let inner = level_some due.level (not r.value) outer.0 in
      (inner.0, not_true r.value inner.1, not_true r.child outer.1)

  -- and one with either keeps the rules below 10
  pub kept_marks : BreaksNoneBelow item due left r 9
      → (not (eqb due.level 0) && not r.value) && not r.child ≡ false
      → BreaksNoneBelow item due left r 10
  kept_marks below f = kept_next item due left r no_value_no_child below (λ (some, no_value, no_child). (
      let h : true ≡ false = (λ i. (sym (test_other due.level 0 some) i && not (sym no_value i)) && not (sym no_child i)) ∙ f in
      cc
      ))

  -- a value mark with no value left breaks that rule
  pub breaks_values : r.value && eqb left 0 ≡ true → BreaksRule item due left r too_few_values
  breaks_values t = (let parts = both r.value (eqb left 0) t in (parts.0, tested left 0 parts.1))

module _ (item : List ℕ → Type 0) (due : Due) (left : ℕ) (r : Record) where
  -- and a value is left for a mark, so that no rule is broken
  pub kept_rules : BreaksNoneBelow item due left r 10 → r.value && eqb left 0 ≡ false
      → BreaksNone item due left r
  kept_rules below f = kept_all item due left r (kept_next item due left r too_few_values below (λ (set, none). (
      let h : true ≡ false = sym (test_same left 0 none) ∙ not_both r.value (eqb left 0) f set in
      cc
      )))

-- the test of an order tells that it is less
pub is_less : (o : Ordering) → is_lt o ≡ true → o ≡ Less
is_less Less e = refl
is_less Equal e = absurd (cc)
is_less Greater e = absurd (cc)
