-- The texts of JSON, each object on a line.
use Rattle.std.specs.Prelude.{◌++◌, if◌then◌else◌, ℕ, List, [], ◌∷◌, Option, None, Some, codes, map}
use Rattle.std.specs.Fmt.{decimal}
use Rattle.std.specs.List.{join_by}
use Rattle.std.specs.Str.{is_utf8}
use Rattle.serde_json.specs.Data.{string}
use Rattle.serde_json.specs.Written.{compact_text}

-- a text, in quotes and with escapes
unfoldable pub string_text : List ℕ → List ℕ
string_text text = compact_text (string text)

-- values in brackets, with a comma between any two
unfoldable pub array_text : List (List ℕ) → List ℕ
array_text values = 91 ∷ join_by (λ value. value) (44 ∷ []) values ++ 93 ∷ []

-- bytes: a text where they are UTF-8, and else the array of their numbers
unfoldable pub bytes_text : List ℕ → List ℕ
bytes_text bytes =
    if is_utf8 bytes then string_text bytes else array_text (map decimal bytes)

-- a value that may be missing
abbrev pub option_text : Option (List ℕ) → List ℕ
option_text None = codes "null"
option_text (Some text) = text

-- a member: its name in quotes, a colon and its value
unfoldable pub member_text : List ℕ × List ℕ → List ℕ
member_text member = 34 ∷ member.0 ++ 34 ∷ 58 ∷ member.1

-- members in braces, with a comma between any two
unfoldable pub object_text : List (List ℕ × List ℕ) → List ℕ
object_text members = 123 ∷ join_by member_text (44 ∷ []) members ++ 125 ∷ []

-- an object on its line
abbrev pub object_line : List (List ℕ × List ℕ) → List ℕ
object_line members = object_text members ++ 10 ∷ []
