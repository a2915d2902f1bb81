-- The lines that keep names, and the names that are read of them.
use Rattle.std.specs.Prelude.{◌≡◌, ◌≢◌, ◌⊎◌, ◌<◌, ◌+◌, ℕ, Bool, true, false, List, [], ◌∷◌, ◌++◌}
use Rattle.std.specs.Prelude.{length, slice_index, map as list_map, string_bytes}
use Rattle.std.specs.List.{All, concat, filter}
use Rattle.patricia_tree.specs.Keys.{Begins}
use Rattle.patricia_tree.specs.Points.{Has}
use Rattle.prefixes_core.specs.Lists.{lines_of, name_of, unmarked, value_of}
use Rattle.prefixes_core.specs.Packings.{head}
use Rattle.prefixes_core.specs.declared.combining.LinesError.{LinesError}
use Rattle.prefixes_core.specs.declared.combining.LinesError.TheVariants as Faults
use Rattle.prefixes_core.specs.declared.lines.LineFormat.{LineFormat}

-- the line of a name: a byte 9 follows the empty name, since an empty line has no name
abbrev pub line_of : ℕ → List ℕ → List ℕ
line_of end [] = 9 ∷ end ∷ []
line_of end (b ∷ name) = (b ∷ name) ++ end ∷ []

-- a carriage return that ends a name, and is not kept at the end of a line
pub record IsReturn (format : LineFormat) (name : List ℕ) (at : ℕ) : Type 0 where
  pub dropped : format.keeps_cr ≡ false
  pub last : at + 1 ≡ length name
  pub byte : slice_index name at ≡ 13

-- a line does not keep the byte of a name at this place: a byte 9 begins the value, and the byte of
-- the end ends the line
pub record IsCutAt (format : LineFormat) (name : List ℕ) (at : ℕ) : Type 0 where
  pub inside : at < length name
  pub byte : (slice_index name at ≡ 9) ⊎ (slice_index name at ≡ format.end)
      ⊎ IsReturn format name at

-- a line keeps all bytes of the name
abbrev pub HasLine : LineFormat → List ℕ → Type 0
HasLine format name = (at : ℕ) → IsCutAt format name at → ⊥

-- what each error says: a line does not keep the byte of one of the names at this place, or memory
-- ran out, which it does only if there is a name
abbrev pub IsLinesFault : List (List ℕ) → LineFormat → LinesError → Type 0
IsLinesFault names format (Faults.Name name at) =
    Has names (string_bytes name) × IsCutAt format (string_bytes name) at
IsLinesFault names format Faults.Memory = names ≢ []

-- the lines are read as these names, in order and without values: none is empty, and so none is
-- passed over
pub record AreReadAs (lines names : List (List ℕ)) : Type 0 where
  pub filled : All (λ line. line ≢ []) lines
  pub names_are : list_map name_of lines ≡ names
  pub no_values : All (λ line. value_of line ≡ []) lines

-- the lines of names are read as these names, if each has a line
abbrev pub LinesReadBack : Type 0
LinesReadBack =
    (format : LineFormat) (names : List (List ℕ)) → format.end ≢ 9 → All (HasLine format) names
    → AreReadAs (lines_of format (concat (list_map (line_of format.end) names))) names

-- whether a line is not passed over
abbrev pub is_filled : List ℕ → Bool
is_filled [] = false
is_filled (b ∷ line) = true

-- the lines of a list that are not passed over
abbrev pub filled_lines : LineFormat → List ℕ → List (List ℕ)
filled_lines format bytes = filter is_filled (lines_of format (unmarked format bytes))

-- the bytes are no packed list, and their lines are read as the names
pub record IsListOf (format : LineFormat) (bytes : List ℕ) (names : List (List ℕ)) : Type 0 where
  pub no_head : Begins head bytes → ⊥
  pub lines : AreReadAs (filled_lines format bytes) names
