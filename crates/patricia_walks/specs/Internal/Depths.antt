-- How many nodes lie one below the other.
use Rattle.std.specs.Prelude.{ℕ, zero, suc, ◌⊎◌, List, []}
use Rattle.patricia_model.specs.Siblings.{Siblings, end, node}

module _ {V : Type 0} where
  -- more than n nodes lie one below the other
  abbrev pub IsDeeper : ℕ → Siblings V → Type 0
  IsDeeper n end = ⊥
  IsDeeper zero (node label value child sibling) = Unit {0}
  IsDeeper (suc n) (node label value child sibling) = IsDeeper n child ⊎ IsDeeper (suc n) sibling

  -- the label of the first of the siblings
  abbrev pub first_label : Siblings V → List ℕ
  first_label end = []
  first_label (node label value child sibling) = label
