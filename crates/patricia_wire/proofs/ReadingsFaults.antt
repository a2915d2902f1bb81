-- Where records are read, the fault of the next one is told by what is due.
use Rattle.std.proofs.Common.{◌≡◌, ℕ, ◌+◌, ◌<◌, ◌≤◌, ◌≢◌, inl, inr, Bool, true, false, List, []}
use Rattle.std.proofs.Common.{◌∷◌, ◌++◌, refl, sym, subst, ◌∙◌, arith}
use Rattle.std.proofs.lemmas.Bool.{cases_lt}
use Rattle.std.proofs.lemmas.List.Sums.{sum_by-append}
use Rattle.std.specs.declared.cmp.Ordering.TheVariants.{Less}
use Rattle.patricia_keys.specs.Keys.{ComparesFirst}
use Rattle.patricia_wire.specs.Records.{Record, bit_if}
use Rattle.patricia_wire.specs.Internal.Readings.{Rule, level, root_label, root_sibling}
use Rattle.patricia_wire.specs.Internal.Readings.{empty_label, invalid_label, sibling_order}
use Rattle.patricia_wire.specs.Internal.Readings.{no_value_no_child, too_few_values, rule_number}
use Rattle.patricia_wire.specs.Internal.Readings.{error_at, Due, IsRead, BreaksRule, BreaksNone}
use Rattle.patricia_wire.specs.Internal.Readings.{BreaksNoneBelow, BreaksFirst, IsFaultless}
use Rattle.patricia_wire.specs.Faults as faults
use Rattle.patricia_wire.specs.Faults.{value_marks, IsLastUpTo, IsDue, other_level, labelled_root}
use Rattle.patricia_wire.specs.Faults.{root_of_siblings, no_label, not_valid, falling, bare}
use Rattle.patricia_wire.specs.Faults.{no_value}
use Rattle.patricia_wire.specs.declared.error.DecodeError.{DecodeError}
use Rattle.patricia_wire.proofs.Readings.{same_number, one_due, is_due, root_due, first_due}
use Rattle.patricia_wire.proofs.Readings.{after_given, after_is}

-- one record more adds its value mark, where it is set
pub marks_more : (before : List Record) (r : Record)
    → value_marks (before ++ (r ∷ [])) ≡ value_marks before + bit_if r.value 1
marks_more before r = omega (arith, sum_by-append (λ (x : Record). bit_if x.value 1) before (r ∷ []))

-- a value mark that is one too many comes where no value is left
none_left : (value : Bool) (left : ℕ) → left < bit_if value 1 → (value ≡ true) × (left ≡ 0)
none_left false left less = absurd (omega (arith, less))
none_left true left less = (refl, omega (arith, less))

-- a value mark counts for one
mark_counts : (value : Bool) → value ≡ true → bit_if value 1 ≡ 1
mark_counts true e = refl
mark_counts false e = absurd (cc)

-- no rule has a lower number than that of the level
pub least_broken :
    (item : List ℕ → Type 0) (before : List Record) (r : Record) (n at k : ℕ) (e : DecodeError)
    → faults.Breaks item before r n at k e → 3 ≤ k
least_broken item before r n at k e (other_level h) = omega arith
least_broken item before r n at k e (labelled_root first some) = omega arith
least_broken item before r n at k e (root_of_siblings first set) = omega arith
least_broken item before r n at k e (no_label later none) = omega arith
least_broken item before r n at k e (not_valid h) = omega arith
least_broken item before r n at k e (falling x last same h) = omega arith
least_broken item before r n at k e (bare later value child) = omega arith
least_broken item before r n at k e (no_value less) = omega arith

module _ (item : List ℕ → Type 0) (n : ℕ) (before : List Record) (r : Record) where
  -- the record breaks the rule behind these records, and none before it
  abbrev pub IsFirstBroken : Rule → Type 0
  IsFirstBroken rule = record {
    broken : (at : ℕ) → faults.Breaks item before r n at (rule_number rule) (error_at at rule);
    first : (at k : ℕ) (e : DecodeError) → k < rule_number rule → faults.Breaks item before r n at k e
        → ⊥;
  }

module _ (item : List ℕ → Type 0) (n left : ℕ) (before : List Record) (due : Due)
    (waiting : List Due) (r : Record) where
  -- at the level that is due the rules are those of the records before
  breaks_behind : IsRead item n before (due ∷ waiting) → left + value_marks before ≡ n
      → r.level ≡ due.level → (at : ℕ) (rule : Rule) → BreaksRule item due left r rule
      → faults.Breaks item before r n at (rule_number rule) (error_at at rule)
  breaks_behind read count same at level b = absurd (b same)
  breaks_behind read count same at root_label b = labelled_root (root_due item n before due waiting read b.0) b.1
  breaks_behind read count same at root_sibling b = root_of_siblings (root_due item n before due waiting read b.0) b.1
  breaks_behind read count same at empty_label b = no_label (λ none. b.0 (let first = first_due item n before due waiting read none in first.0)) b.1
  breaks_behind read count same at invalid_label b = not_valid b
  breaks_behind read count same at sibling_order b =
      let sibling = after_given item n before due waiting read b.0 b.1 in
      falling sibling.0 (subst (λ d. IsLastUpTo before d sibling.0) (sym same) sibling.1)
      (sibling.2 ∙ sym same)
      (λ ordered. b.2 (subst (λ l. ComparesFirst item l r.label Less) sibling.3 ordered))
  breaks_behind read count same at no_value_no_child b = bare (λ none. b.0 (let first = first_due item n before due waiting read none in first.0)) b.1 b.2
  breaks_behind read count same at too_few_values b = no_value (omega (arith, count, marks_more before r, mark_counts r.value b.0, b.1))

  -- and the other way round
  breaks_due : IsRead item n before (due ∷ waiting) → left + value_marks before ≡ n
      → r.level ≡ due.level → (at k : ℕ) (e : DecodeError) → faults.Breaks item before r n at k e
      → (rule : Rule) × (k ≡ rule_number rule) × BreaksRule item due left r rule
  breaks_due read count same at k e (other_level h) = absurd (h (subst (IsDue before) (sym same) (is_due item n before due waiting read)))
  breaks_due read count same at k e (labelled_root none some) = (
    root_label,
    refl,
    ((let first = first_due item n before due waiting read none in first.0), some),
  )
  breaks_due read count same at k e (root_of_siblings none set) = (
    root_sibling,
    refl,
    ((let first = first_due item n before due waiting read none in first.0), set),
  )
  breaks_due read count same at k e (no_label later none) = (empty_label, refl, ((λ zero. later (root_due item n before due waiting read zero)), none))
  breaks_due read count same at k e (not_valid h) = (invalid_label, refl, h)
  breaks_due read count same at k e (falling x last sibling h) =
      let label = after_is item n before due waiting read x (subst (λ d. IsLastUpTo before d x) same last) (sibling ∙ same) in
      (sibling_order, refl, (x.label, label, h))
  breaks_due read count same at k e (bare later value child) = (
    no_value_no_child,
    refl,
    ((λ zero. later (root_due item n before due waiting read zero)), value, child),
  )
  breaks_due read count same at k e (no_value less) = (too_few_values, refl, none_left r.value left (omega (arith, count, marks_more before r, less)))

  -- where the level is not the one that is due, its rule is the first that is broken
  at_other_level : IsRead item n before (due ∷ waiting) → r.level ≢ due.level → (rule : Rule)
      → BreaksNoneBelow item due left r (rule_number rule) → IsFirstBroken item n before r rule
  at_other_level read other level lower = record {
    broken = λ at. other_level (λ given. other (one_due before r.level due.level given (is_due item n before due waiting read)));
    first = λ at k e less h. omega (arith, less, least_broken item before r n at k e h);
  }
  at_other_level read other root_label lower = absurd (lower level (omega arith) other)
  at_other_level read other root_sibling lower = absurd (lower level (omega arith) other)
  at_other_level read other empty_label lower = absurd (lower level (omega arith) other)
  at_other_level read other invalid_label lower = absurd (lower level (omega arith) other)
  at_other_level read other sibling_order lower = absurd (lower level (omega arith) other)
  at_other_level read other no_value_no_child lower = absurd (lower level (omega arith) other)
  at_other_level read other too_few_values lower = absurd (lower level (omega arith) other)

  -- the first rule that is broken by what is due is the first that is broken behind the records
  pub faulty : IsRead item n before (due ∷ waiting) → left + value_marks before ≡ n → (rule : Rule)
      → BreaksFirst item due left r rule → IsFirstBroken item n before r rule
  faulty read count rule b = elim (cases_lt r.level due.level) [
    | inl less ↦ at_other_level read (λ e. omega (arith, less, e)) rule b.1
    | inr least ↦ elim (cases_lt due.level r.level) [
      | inl more ↦ at_other_level read (λ e. omega (arith, more, e)) rule b.1
      | inr most ↦
          let same : r.level ≡ due.level = omega (arith, least, most) in
          record {
            broken = λ at. breaks_behind read count same at rule b.0;
            first = λ at k e less h. (let found = breaks_due read count same at k e h in b.1 found.0 (omega (arith, less, found.1)) found.2);
          }
    ]
  ]

  -- where no rule is broken the record has no fault
  pub faultless : IsRead item n before (due ∷ waiting) → left + value_marks before ≡ n
      → BreaksNone item due left r → IsFaultless item before r n
  faultless read count fine at k e h =
      let same = same_number r.level due.level (fine level) in
      let found = breaks_due read count same at k e h in
      fine found.0 found.2
