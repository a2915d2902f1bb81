-- Lines that are taken off the front of what a reader has left.
use Rattle.std.specs.Prelude.{◌≡◌, ℕ, List, [], ◌∷◌, Bool, true, false, Option, None, Some}
use Rattle.std.specs.Io.BufRead.{strip_last}
use Rattle.prefixes_core.specs.Lists.{line_text, lines_of}
use Rattle.prefixes_core.specs.declared.lines.LineFormat.{LineFormat}

-- the text of a line that was read with the byte at its end
abbrev pub read_text : LineFormat → List ℕ → List ℕ
read_text format read = line_text format (strip_last format.end read)

-- a read takes the first line of the bytes, where these are known; `false` says that none is left
abbrev pub TakesLine : LineFormat → Option (List ℕ) → Option (List ℕ) → Bool → List ℕ → Type 0
TakesLine format None new is_some read = Unit {0}
TakesLine format (Some bytes) new true read =
    (rest : List ℕ) × (new ≡ Some rest)
    × (lines_of format bytes ≡ read_text format read ∷ lines_of format rest)
TakesLine format (Some bytes) new false read = lines_of format bytes ≡ []
