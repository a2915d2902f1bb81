-- There is one first fault.
use Rattle.std.proofs.Common.{◌≡◌, ℕ, inl, inr, List, [], ◌∷◌, get_or, refl, sym, ap, ◌∙◌, arith}
use Rattle.patricia_wire.specs.Records.{Record}
use Rattle.patricia_wire.specs.Faults.{Breaks, other_level, labelled_root, root_of_siblings}
use Rattle.patricia_wire.specs.Faults.{no_label, not_valid, falling, bare, no_value, Stands}
use Rattle.patricia_wire.specs.Faults.{cut_short, in_record, trailing, too_many, IsFirst}
use Rattle.patricia_wire.specs.declared.error.DecodeError.{DecodeError}
use Rattle.patricia_wire.specs.declared.error.DecodeError.TheVariants.{Memory, Truncated, Level}
use Rattle.patricia_wire.specs.declared.error.DecodeError.TheVariants.{RootLabel, RootSibling}
use Rattle.patricia_wire.specs.declared.error.DecodeError.TheVariants.{EmptyLabel, InvalidLabel}
use Rattle.patricia_wire.specs.declared.error.DecodeError.TheVariants.{SiblingOrder, NoValueNoChild}
use Rattle.patricia_wire.specs.declared.error.DecodeError.TheVariants.{TooFewValues, TrailingBytes}
use Rattle.patricia_wire.specs.declared.error.DecodeError.TheVariants.{TooManyValues}

-- the error of a number at an offset
abbrev named : ℕ → ℕ → DecodeError
named k at = get_or
    (Memory ∷ Memory ∷ Truncated at ∷ Level at ∷ RootLabel at ∷ RootSibling at ∷ EmptyLabel at ∷
    InvalidLabel at ∷ SiblingOrder at ∷ NoValueNoChild at ∷ TooFewValues at ∷ TrailingBytes at ∷
    TooManyValues ∷ []) k Memory

module _ (item : List ℕ → Type 0) where
  -- the error of a broken rule is the one of its number, at its record's offset
  rule_named : (before : List Record) (r : Record) (n at k : ℕ) (e : DecodeError)
      → Breaks item before r n at k e → e ≡ named k at
  rule_named before r n at k e (other_level h) = refl
  rule_named before r n at k e (labelled_root first some) = refl
  rule_named before r n at k e (root_of_siblings first set) = refl
  rule_named before r n at k e (no_label later none) = refl
  rule_named before r n at k e (not_valid h) = refl
  rule_named before r n at k e (falling x last same h) = refl
  rule_named before r n at k e (bare later value child) = refl
  rule_named before r n at k e (no_value less) = refl

  -- and so is the error of each fault that stands
  stands_named : (w : ℕ) (b : List ℕ) (n k at : ℕ) (e : DecodeError) → Stands item w b n k at e
      → e ≡ named k at
  stands_named w b n k at e (cut_short before rest reads begun cut) = refl
  stands_named w b n k at e (in_record before r first rest reads begun spells broken) = rule_named before r n at k e broken
  stands_named w b n k at e (trailing R E rest reads tree some) = refl
  stands_named w b n k at e (too_many R E spelled tree less) = refl

  -- an input has at most one first fault
  pub one_first : (w : ℕ) (b : List ℕ) (n : ℕ) (e f : DecodeError) → IsFirst item w b n e
      → IsFirst item w b n f → e ≡ f
  one_first w b n e f x y = stands_named w b n x.number x.at e x.stands ∙ ap (λ k. named k x.at)
      numbers ∙ ap (named y.number) places ∙ sym (stands_named w b n y.number y.at f y.stands)
    where
      both : (x.at ≡ y.at) × (x.number ≡ y.number)
      both = elim (x.first y.number y.at f y.stands) [
        | inl early ↦ elim (y.first x.number x.at e x.stands) [
          | inl late ↦ absurd (omega (arith, early, late))
          | inr same ↦ absurd (omega (arith, early, same.0))
        ]
        | inr same ↦ elim (y.first x.number x.at e x.stands) [
          | inl late ↦ absurd (omega (arith, late, same.0))
          | inr back ↦ (same.0, omega (arith, same.1, back.1))
        ]
      ]

      places : x.at ≡ y.at
      places = both.0

      numbers : x.number ≡ y.number
      numbers = both.1
