-- The text kind: the UTF-8 (RFC 3629) of each character is an item: the valid keys are the texts.
use Rattle.std.specs.Prelude.{◌≡◌, ℕ, List, encode_utf8}
use Rattle.std.specs.Char.{IsScalar}

-- the UTF-8 of one character
pub data IsTextItem : List ℕ → Type 0 where
  one_char : (c : ℕ) {i : List ℕ} → IsScalar c → encode_utf8 c ≡ i → IsTextItem i
