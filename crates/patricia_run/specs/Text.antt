-- The lines of an input, and what each says.
use Rattle.std.specs.Prelude.{ℕ, ◌^◌, List, [], ◌∷◌, length, map, codes}
use Rattle.std.specs.Prelude.{Option, None, Some, Result, Ok, Err}
use Rattle.std.specs.Prelude.{◌==◌, ◌&&◌, nat_lt, if◌then◌else◌, ok_or, option_map}
use Rattle.std.specs.Option.{option_map_or}
use Rattle.std.specs.Result.{result_map_both}
use Rattle.std.specs.List.{slice_split, list_all, find}
use Rattle.std.specs.Char.{is_ascii_digit}
use Rattle.std.specs.Str.{bytes_eq}
use Rattle.std.specs.Str.Parse.{digits_value}
use Rattle.patricia_run.specs.declared.command.Command.{Command}
use Rattle.patricia_run.specs.declared.command.Command.TheVariants as Commands
use Rattle.patricia_run.specs.declared.reading.Fault.{Fault}
use Rattle.patricia_run.specs.declared.reading.Fault.TheVariants as Faults
use Rattle.patricia_run.specs.Machine.{with_key}
use Rattle.patricia_run.specs.KeyFormats.{KeyFormat}

-- what a line says: a command, its key as bytes, or what is wrong with the line
abbrev pub Parsed : Type 0
Parsed = Result (Command (List ℕ) ℕ) Fault

-- the number that a field writes: one or more digits, of a value below 2^64
abbrev pub number_of : List ℕ → Option ℕ
number_of [] = None
number_of (b ∷ bs) =
    let value = digits_value 10 (b ∷ bs) in
    if list_all is_ascii_digit (b ∷ bs) && nat_lt value (2 ^ 64) then Some value else None

-- what follows a word on its line: nothing, a key, or a key and a number
pub data Shape : Type 0 where
  alone : Command (List ℕ) ℕ → Shape
  keyed : (List ℕ → Command (List ℕ) ℕ) → Shape
  valued : (List ℕ → ℕ → Command (List ℕ) ℕ) → Shape

-- the words that write the tree or read it again, with levels in two bytes and in four, and the
-- command of each
abbrev pub wire_words : List (List ℕ × Shape)
wire_words = (codes "wire", alone Commands.Wire)
    ∷ (codes "reload", alone Commands.Reload)
    ∷ (codes "wide", alone Commands.Wide)
    ∷ (codes "reloadwide", alone Commands.ReloadWide) ∷ []

-- all words, and the command of each
abbrev pub words : List (List ℕ × Shape)
words = (codes "insert", valued (λ key value. Commands.Insert key value))
    ∷ (codes "get", keyed (λ key. Commands.Get key))
    ∷ (codes "remove", keyed (λ key. Commands.Remove key))
    ∷ (codes "len", alone Commands.Len)
    ∷ (codes "list", alone Commands.List)
    ∷ (codes "under", keyed (λ prefix. Commands.Under prefix))
    ∷ (codes "along", keyed (λ key. Commands.Along key))
    ∷ (codes "longest", keyed (λ key. Commands.Longest key))
    ∷ (codes "reach", keyed (λ key. Commands.Reach key))
    ∷ (codes "split", keyed (λ prefix. Commands.Split prefix))
    ∷ (codes "swap", alone Commands.Swap)
    ∷ (codes "copy", alone Commands.Copy)
    ∷ (codes "clear", alone Commands.Clear) ∷ wire_words

-- what follows this word, if it is one of these
abbrev pub shape_in : List (List ℕ × Shape) → List ℕ → Option Shape
shape_in table word = option_map (λ pair. pair.1) (find (λ pair. bytes_eq word pair.0) table)

-- what follows this word
abbrev pub shape_of : List ℕ → Option Shape
shape_of word = shape_in words word

-- the key that the only field spells
abbrev pub key_alone : KeyFormat → List (List ℕ) → Result (List ℕ) Fault
key_alone key_format (field ∷ []) = ok_or (key_format.read field) Faults.BadKey
key_alone key_format _ = Err Faults.FieldCount

-- what the fields after a word say, or their lowest fault: of a number and a key the number's
abbrev pub parse_command : KeyFormat → Shape → List (List ℕ) → Parsed
parse_command key_format (alone command) [] = Ok command
parse_command key_format (keyed command) fields =
    result_map_both command (λ fault. fault) (key_alone key_format fields)
parse_command key_format (valued command) (key ∷ value ∷ []) =
    option_map_or (λ n. ok_or (option_map (λ k. command k n) (key_format.read key)) Faults.BadKey)
    (number_of value) (Err Faults.BadNumber)
parse_command key_format shape fields = Err Faults.FieldCount

-- what the fields of a line say, the first of which is its word
abbrev pub parse_fields : KeyFormat → List (List ℕ) → Parsed
parse_fields key_format [] = Err Faults.UnknownWord
parse_fields key_format (word ∷ fields) =
    option_map_or (λ shape. parse_command key_format shape fields)
    (shape_of word) (Err Faults.UnknownWord)

-- what a line says: fields are separated by the byte 9
abbrev pub parse_line : KeyFormat → List ℕ → Parsed
parse_line key_format line = parse_fields key_format (slice_split (λ b. b == 9) line)

-- what was read, with the bytes of its key in the key's place
abbrev pub parse_with : {Q : Type 0} → (Q → List ℕ) → Result (Command Q ℕ) Fault → Parsed
parse_with key_of = result_map_both (with_key key_of) (λ fault. fault)

-- the parts round the bytes 10 without the last one, if that is empty
abbrev pub without_last_empty : List (List ℕ) → List (List ℕ)
without_last_empty [] = []
without_last_empty (part ∷ []) = if length part == 0 then [] else part ∷ []
without_last_empty (part ∷ next ∷ more) = part ∷ without_last_empty (next ∷ more)

-- the lines of an input: each ends at a byte 10, and what follows the last one is a line if it
-- has a byte
abbrev pub lines_of : List ℕ → List (List ℕ)
lines_of input = without_last_empty (slice_split (λ b. b == 10) input)

-- what each line of an input says
abbrev pub parse_lines : KeyFormat → List ℕ → List Parsed
parse_lines key_format input = map (parse_line key_format) (lines_of input)
