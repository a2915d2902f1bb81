-- What is wrong with bytes that are no packed list, and where.
use Rattle.std.specs.Prelude.{◌≡◌, ℕ, ◌+◌, List, ◌++◌, length, map}
use Rattle.std.specs.List.{concat}
use Rattle.patricia_tree.specs.Faults.{IsFirst}
use Rattle.patricia_tree.specs.Keys.{Begins}
use Rattle.patricia_tree.specs.TextKind.{IsTextItem}
use Rattle.patricia_tree.specs.declared.DecodeError.{DecodeError}
use Rattle.prefixes_core.specs.Packings.{head, counted, packed}
use Rattle.prefixes_core.specs.declared.packing.UnpackError.{UnpackError}
use Rattle.prefixes_core.specs.declared.packing.UnpackError.TheVariants as Faults

-- some bytes behind their numbers, and then at this offset too few: in `0,0,0,0,0,0,0,2,97` at 0
pub record IsCut (bytes : List ℕ) (start at : ℕ) : Type 0 where
  pub whole : List (List ℕ)
  pub rest : List ℕ
  pub is : bytes ≡ concat (map counted whole) ++ rest
  pub place : at ≡ start + length (concat (map counted whole))
  pub cut : (field more : List ℕ) → rest ≡ counted field ++ more → ⊥

-- the bytes are tree bytes and values, and this is the first fault of the two
pub record IsTreeFault (bytes : List ℕ) (fault : DecodeError) : Type 0 where
  pub tree : List ℕ
  pub values : List (List ℕ)
  pub is : bytes ≡ packed tree values
  pub first : IsFirst IsTextItem 2 tree (length values) fault

-- what each error says of the bytes; tree bytes begin behind the head and their number
abbrev pub IsUnpackFault : List ℕ → UnpackError → Type 0
IsUnpackFault bytes Faults.Head = Begins head bytes → ⊥
IsUnpackFault bytes (Faults.Truncated at) =
    (behind : List ℕ) × (bytes ≡ head ++ behind) × IsCut behind 9 at
IsUnpackFault bytes (Faults.Tree at fault) = (at ≡ 17) × IsTreeFault bytes fault
IsUnpackFault bytes Faults.Memory = Unit {0}

-- what an error of the values says, which begin at this offset
abbrev pub IsValueFault : List ℕ → ℕ → UnpackError → Type 0
IsValueFault bytes start (Faults.Truncated at) = IsCut bytes start at
IsValueFault bytes start Faults.Memory = Unit {0}
IsValueFault bytes start _ = ⊥
