-- The lines that an output has for faults and replies.
use Rattle.std.specs.Prelude.{ℕ, List, [], ◌∷◌, ◌++◌, length, map, codes, Ok, Err}
use Rattle.std.specs.Fmt.{decimal}
use Rattle.std.specs.List.{concat, join_by}
use Rattle.patricia_run.specs.declared.command.Reply.{Reply}
use Rattle.patricia_run.specs.declared.command.Reply.TheVariants as Replies
use Rattle.patricia_run.specs.declared.reading.Fault.{Fault}
use Rattle.patricia_run.specs.declared.reading.Fault.TheVariants as Faults
use Rattle.patricia_run.specs.KeyFormats.{KeyFormat}
use Rattle.patricia_run.specs.Text.{Parsed}

-- a text, a space and a number, and the byte 10 that ends the line
abbrev pub number_line : List ℕ → ℕ → List ℕ
number_line text n = text ++ (32 ∷ decimal n) ++ 10 ∷ []

-- the printed key, a space and the value
abbrev pub entry_line : {K : Type 0} → KeyFormat → (K → List ℕ) → K × ℕ → List ℕ
entry_line key_format key_of entry = number_line (key_format.print (key_of entry.0)) entry.1

-- a line for each entry
abbrev pub entry_lines : {K : Type 0} → KeyFormat → (K → List ℕ) → List (K × ℕ) → List ℕ
entry_lines key_format key_of entries = concat (map (entry_line key_format key_of) entries)

-- the number by which a fault is printed
abbrev pub fault_number : Fault → ℕ
fault_number Faults.UnknownWord = 1
fault_number Faults.FieldCount = 2
fault_number Faults.BadNumber = 3
fault_number Faults.BadKey = 4

-- the line of a fault
abbrev pub fault_line : Fault → List ℕ
fault_line fault = number_line (codes "fault") (fault_number fault)

-- numbers in decimal, with a comma between each two, or - where there is none
abbrev pub joined_or_dash : List ℕ → List ℕ
joined_or_dash [] = codes "-"
joined_or_dash (number ∷ numbers) = join_by decimal (codes ",") (number ∷ numbers)

-- the tree bytes, and the values
abbrev pub wire_line : List ℕ → List ℕ → List ℕ
wire_line bytes values =
    codes "wire " ++ join_by decimal (codes ",") bytes ++ 32 ∷ joined_or_dash values ++ 10 ∷ []

-- the lines of a reply
abbrev pub reply_lines : {K : Type 0} → KeyFormat → (K → List ℕ) → Reply K ℕ → List ℕ
reply_lines key_format key_of Replies.None = codes "none\n"
reply_lines key_format key_of (Replies.Some n) = number_line (codes "some") n
reply_lines key_format key_of (Replies.Longest length n) =
    number_line (codes "some" ++ 32 ∷ decimal length) n
reply_lines key_format key_of (Replies.Count n) = number_line (codes "count") n
reply_lines key_format key_of (Replies.Rows entries) =
    number_line (codes "rows") (length entries.items) ++ entry_lines key_format key_of entries.items
reply_lines key_format key_of Replies.Done = codes "ok\n"
reply_lines key_format key_of (Replies.Wire bytes values) = wire_line bytes.items values.items
reply_lines key_format key_of Replies.TooDeep = codes "too deep\n"
reply_lines key_format key_of Replies.NoMemory = codes "no memory\n"

-- for each line that was read, in turn, the line of its fault, or the lines of the next reply
abbrev pub output_of :
    {K : Type 0} → KeyFormat → (K → List ℕ) → List Parsed → List (Reply K ℕ) → List ℕ
output_of key_format key_of [] replies = []
output_of key_format key_of (Err fault ∷ said) replies =
    fault_line fault ++ output_of key_format key_of said replies
output_of key_format key_of (Ok command ∷ said) (reply ∷ replies) =
    reply_lines key_format key_of reply ++ output_of key_format key_of said replies
output_of key_format key_of (Ok command ∷ said) [] = output_of key_format key_of said []
