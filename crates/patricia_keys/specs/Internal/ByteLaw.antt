-- Bytes are a key kind.
use Rattle.std.specs.Prelude.{◌≡◌, ℕ, ◌<◌, ◌≤◌, List, [], ◌∷◌, ◌++◌, length}
use Rattle.std.specs.List.{All}
use Rattle.std.proofs.Common.{arith}
use Rattle.std.proofs.lemmas.List.Elements.{All-nil, All-cons}
use Rattle.patricia_keys.specs.Keys.{IsKeyKind}
use Rattle.patricia_keys.specs.ByteKind.{IsByteItem, one_byte}

-- an item has one byte
sized : (i : List ℕ) → IsByteItem i → (1 ≤ length i) × (length i ≤ 255)
sized i (one_byte h) = (omega arith, omega arith)

-- and that is a byte
bytes : (i : List ℕ) → IsByteItem i → All (λ b. b < 256) i
bytes i (one_byte {b = b} h) = All-cons (λ x. x < 256) b [] h (All-nil (λ x. x < 256))

-- no byte begins a longer item
apart : (i rest : List ℕ) → IsByteItem i → IsByteItem (i ++ rest) → rest ≡ []
apart i [] (one_byte h) f = λ _. []
apart i (c ∷ rest) (one_byte h) f = elim f [ ]

-- bytes are a key kind
pub byte_lawful : IsKeyKind IsByteItem
byte_lawful = record { sized = sized; bytes = bytes; apart = apart }
