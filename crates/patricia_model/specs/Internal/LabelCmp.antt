-- How a key meets a label.
use Rattle.std.specs.Prelude.{◌≡◌, ℕ, ◌<◌, List, ◌++◌, length}
use Rattle.patricia_model.specs.declared.label_cmp.LabelCmp.{LabelCmp}
use Rattle.patricia_model.specs.declared.label_cmp.LabelCmp.TheVariants.{Before, After, Partial}
use Rattle.patricia_model.specs.declared.label_cmp.LabelCmp.TheVariants.{Full}
use Rattle.patricia_keys.specs.Keys.{Begins, IsCommon}
use Rattle.patricia_model.specs.Siblings.{IsBefore}

-- two keys have one first item
pub record SharesItem (item : List ℕ → Type 0) (a b : List ℕ) : Type 0 where
  pub shared : List ℕ
  pub is_item : item shared
  pub begins_first : Begins shared a
  pub begins_second : Begins shared b

-- n bytes of the key begin the label, and the label has more
pub record EndsWithin (item : List ℕ → Type 0) (key label : List ℕ) (n : ℕ) : Type 0 where
  pub shares : SharesItem item key label
  pub common : IsCommon item key label n
  pub short : n < length label

-- the label begins the key, and rest is what is left
pub record Passes (item : List ℕ → Type 0) (key label rest : List ℕ) : Type 0 where
  pub shares : SharesItem item key label
  pub splits : label ++ rest ≡ key

-- the meeting of a key and a label
abbrev pub ComparesLabel :
    {Q : Type 0} → (List ℕ → Type 0) → (Q → List ℕ) → List ℕ → List ℕ → LabelCmp Q → Type 0
ComparesLabel item key_of key label Before = IsBefore item key label
ComparesLabel item key_of key label After = IsBefore item label key
ComparesLabel item key_of key label (Partial n) = EndsWithin item key label n
ComparesLabel item key_of key label (Full rest) = Passes item key label (key_of rest)
