-- Units are a key kind.
use Rattle.std.specs.Prelude.{◌≡◌, ℕ, ◌<◌, ◌≤◌, List, [], ◌∷◌, ◌++◌, length}
use Rattle.std.specs.List.{All}
use Rattle.std.proofs.Common.{arith}
use Rattle.std.proofs.lemmas.List.Elements.{All-nil, All-cons}
use Rattle.patricia_keys.specs.Keys.{IsKeyKind}
use Rattle.patricia_keys.specs.UnitKind.{IsUnitItem, one_unit}

-- an item has two bytes
sized : (i : List ℕ) → IsUnitItem i → (1 ≤ length i) × (length i ≤ 255)
sized i (one_unit h l) = (omega arith, omega arith)

-- and these are bytes
bytes : (i : List ℕ) → IsUnitItem i → All (λ b. b < 256) i
bytes i (one_unit {high = a} {low = b} h l) =
    All-cons (λ x. x < 256) a (b ∷ []) h (All-cons (λ x. x < 256) b [] l (All-nil (λ x. x < 256)))

-- no unit begins a longer item
apart : (i rest : List ℕ) → IsUnitItem i → IsUnitItem (i ++ rest) → rest ≡ []
apart i [] (one_unit h l) f = λ _. []
apart i (c ∷ rest) (one_unit h l) f = elim f [ ]

-- units are a key kind
pub unit_lawful : IsKeyKind IsUnitItem
unit_lawful = record { sized = sized; bytes = bytes; apart = apart }
