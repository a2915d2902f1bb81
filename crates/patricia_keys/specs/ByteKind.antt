-- The byte kind: each list of one byte is an item, so that each byte list is a valid key.
use Rattle.std.specs.Prelude.{ℕ, ◌<◌, List, [], ◌∷◌}

-- a list of one byte
pub data IsByteItem : List ℕ → Type 0 where
  one_byte : {b : ℕ} → b < 256 → IsByteItem (b ∷ [])
