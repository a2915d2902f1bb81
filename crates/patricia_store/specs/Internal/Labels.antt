-- Labels as parts of one list of bytes.
use Rattle.std.specs.Prelude.{◌≡◌, ℕ, ◌+◌, ◌*◌, ◌/◌, ◌%◌, ◌≤◌, ◌++◌, List, [], ◌∷◌}
use Rattle.std.specs.Prelude.{length, take, drop, get_or}
use Rattle.std.specs.Prelude.{nat_lt, if◌then◌else◌}
use Rattle.patricia_store.specs.declared.labels.Span.{Span}
use Rattle.patricia_store.specs.Internal.Packing.{number}

-- the bytes of labels, and how many more there is room for
pub record Bytes : Type 0 where
  pub items : List ℕ
  pub room : ℕ

-- the number in six bytes, from the lowest
abbrev pub number_at : List ℕ → ℕ → ℕ
number_at bytes at =
    get_or bytes at 0 + 256 * get_or bytes (at + 1) 0 + 65536 * get_or bytes (at + 2) 0
    + 16777216 * get_or bytes (at + 3) 0 + 4294967296 * get_or bytes (at + 4) 0
    + 1099511627776 * get_or bytes (at + 5) 0

-- where a label begins. One of 255 bytes or more has a note of where it begins, and of its length
abbrev pub start_in : List ℕ → Span → ℕ
start_in bytes span =
    if nat_lt span.len 255 then number span.offset else number_at bytes (number span.offset)

-- how long it is
abbrev pub len_in : List ℕ → Span → ℕ
len_in bytes span =
    if nat_lt span.len 255 then span.len else number_at bytes (number span.offset + 6)

-- the label
abbrev pub label_in : List ℕ → Span → List ℕ
label_in bytes span = take (len_in bytes span) (drop (start_in bytes span) bytes)

-- the label and its note are within the bytes, and no short label has a note
pub record IsSpan (bytes : List ℕ) (span : Span) : Type 0 where
  pub note_long : 255 ≤ span.len → 255 ≤ len_in bytes span
  pub note_within : 255 ≤ span.len → number span.offset + 12 ≤ length bytes
  pub label_within : start_in bytes span + len_in bytes span ≤ length bytes

-- how many bytes the note takes of a label of n bytes
abbrev pub note_room : ℕ → ℕ
note_room n = if nat_lt n 255 then 0 else 12

-- how many bytes a label of n bytes takes
abbrev pub label_room : ℕ → ℕ
label_room n = n + note_room n

-- how many bytes two labels take that are joined
abbrev pub joined_room : ℕ → ℕ → ℕ
joined_room n m = label_room (n + m)

-- how many bytes the notes take of the parts of a label of n bytes
abbrev pub cut_room : ℕ → ℕ
cut_room n = 2 * note_room n

-- bytes stay, and more may come behind them
pub record Extends (old new : List ℕ) : Type 0 where
  pub more : List ℕ
  pub new_is : new ≡ old ++ more

-- a number in six bytes, from the lowest
abbrev pub six_bytes : ℕ → List ℕ
six_bytes n =
    n % 256 ∷ n / 256 % 256 ∷ n / 65536 % 256 ∷ n / 16777216 % 256 ∷ n / 4294967296 % 256
    ∷ n / 1099511627776 ∷ []
