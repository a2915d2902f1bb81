-- The rules of a record by their numbers.
use Rattle.std.proofs.Common.{◌≡◌, ℕ, ◌+◌, ◌<◌, ◌≤◌, inl, inr, List, [], ◌∷◌, get_or, refl, sym, ap}
use Rattle.std.proofs.Common.{subst, ◌∙◌, arith}
use Rattle.std.proofs.lemmas.Bool.{cases_lt}
use Rattle.patricia_wire.specs.Records.{Record}
use Rattle.patricia_wire.specs.Internal.Readings.{Rule, level, root_label, root_sibling}
use Rattle.patricia_wire.specs.Internal.Readings.{empty_label, invalid_label, sibling_order}
use Rattle.patricia_wire.specs.Internal.Readings.{no_value_no_child, too_few_values, rule_number}
use Rattle.patricia_wire.specs.Internal.Readings.{Due, BreaksRule, BreaksNone, BreaksNoneBelow}

-- no rule has a number below 3
pub least_rule : (rule : Rule) → 3 ≤ rule_number rule
least_rule level = omega arith
least_rule root_label = omega arith
least_rule root_sibling = omega arith
least_rule empty_label = omega arith
least_rule invalid_label = omega arith
least_rule sibling_order = omega arith
least_rule no_value_no_child = omega arith
least_rule too_few_values = omega arith

-- no rule has a number past 10
pub last_rule : (rule : Rule) → rule_number rule < 11
last_rule level = omega arith
last_rule root_label = omega arith
last_rule root_sibling = omega arith
last_rule empty_label = omega arith
last_rule invalid_label = omega arith
last_rule sibling_order = omega arith
last_rule no_value_no_child = omega arith
last_rule too_few_values = omega arith

-- the rule of a number
abbrev numbered : ℕ → Rule
numbered k = get_or
    (level ∷ level ∷ level ∷ level ∷ root_label ∷ root_sibling ∷ empty_label ∷ invalid_label ∷
    sibling_order ∷ no_value_no_child ∷ too_few_values ∷ []) k level

-- each rule is the one of its number
numbered-number : (rule : Rule) → numbered (rule_number rule) ≡ rule
numbered-number level = refl
numbered-number root_label = refl
numbered-number root_sibling = refl
numbered-number empty_label = refl
numbered-number invalid_label = refl
numbered-number sibling_order = refl
numbered-number no_value_no_child = refl
numbered-number too_few_values = refl

-- rules with one number are one rule
number_same : (f g : Rule) → rule_number f ≡ rule_number g → f ≡ g
number_same f g e = sym (numbered-number f) ∙ ap numbered e ∙ numbered-number g

module _ (item : List ℕ → Type 0) (due : Due) (left : ℕ) (r : Record) where
  -- no rule comes before that of the level
  pub below_level : BreaksNoneBelow item due left r 3
  below_level rule less b = omega (arith, less, least_rule rule)

  -- where the rules below one are kept, and it is, so are those up to it
  pub kept_next : (rule : Rule) → BreaksNoneBelow item due left r (rule_number rule)
      → (BreaksRule item due left r rule → ⊥) → BreaksNoneBelow item due left r (rule_number rule + 1)
  kept_next rule below kept g less b = elim (cases_lt (rule_number g) (rule_number rule)) [
    | inl fewer ↦ below g fewer b
    | inr least ↦ kept (subst (BreaksRule item due left r) (number_same g rule (omega (arith, less, least))) b)
  ]

  -- where the rules below number 11 are kept, all are
  pub kept_all : BreaksNoneBelow item due left r 11 → BreaksNone item due left r
  kept_all below rule b = below rule (last_rule rule) b
