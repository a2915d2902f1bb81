-- Pieces of labels, and the records of siblings whose labels are cut.
use Rattle.std.specs.Prelude.{◌≡◌, ℕ, zero, suc, ◌+◌, ◌<◌, ◌≤◌, List, length, take, drop, Some}
use Rattle.patricia_keys.specs.Keys.{Begins, IsValid}
use Rattle.patricia_model.specs.Siblings.{Siblings, end, node, entries, IsCanonical}
use Rattle.patricia_model.specs.Siblings.{IsCanonicalWithin}
use Rattle.patricia_wire.specs.Records.{Record}
use Rattle.patricia_wire.specs.Internal.WrittenSiblings.{records_of}

module _ (item : List ℕ → Type 0) where
  -- the first n bytes of a label have room in a record, and the item behind them has none
  pub record IsPiece (label : List ℕ) (n : ℕ) : Type 0 where
    pub within : n ≤ length label
    pub fits : n ≤ 255
    pub nonempty : 1 ≤ n
    pub valid : IsValid item (take n label)
    pub full : (i : List ℕ) → item i → Begins i (drop n label) → 255 < n + length i

  -- these are the records of siblings at level d, with their long labels cut
  pub record AreRecords {V : Type 0} (d : ℕ) (siblings : Siblings V) (R : List Record)
      : Type 0 where
    pub canonical : IsCanonical item siblings
    pub cut : Siblings V
    pub cut_ok : IsCanonicalWithin item (Some 255) cut
    pub same : entries cut ≡ entries siblings
    pub is : R ≡ records_of d cut

module _ {V : Type 0} where
  -- siblings behind the first n bytes of their first label, where there are any the first one alone
  abbrev pub cut_front : ℕ → Siblings V → Siblings V
  cut_front zero siblings = siblings
  cut_front (suc n) end = end
  cut_front (suc n) (node label value child sibling) = node (drop (suc n) label) value child end

  -- the bytes and the nodes of siblings
  abbrev pub weight : Siblings V → ℕ
  weight end = 0
  weight (node label value child sibling) = suc (length label + (weight child + weight sibling))
