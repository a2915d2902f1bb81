-- The unit kind: the two bytes of each 16-bit unit are an item: the valid keys are the byte lists
-- of even length.
use Rattle.std.specs.Prelude.{ℕ, ◌<◌, List, [], ◌∷◌}

-- a list of two bytes
pub data IsUnitItem : List ℕ → Type 0 where
  one_unit : {high low : ℕ} → high < 256 → low < 256 → IsUnitItem (high ∷ low ∷ [])
