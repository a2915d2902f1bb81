-- The lines of a list, and what is read of them.
use Rattle.std.specs.Prelude.{◌≡◌, ◌≢◌, ◌==◌, ◌<◌, ◌+◌, ◌++◌, ℕ, List, [], ◌∷◌, length}
use Rattle.std.specs.Prelude.{if◌then◌else◌, not, ◌&&◌, nat_eq, drop, map as list_map}
use Rattle.std.specs.Io.BufRead.{strip_last}
use Rattle.std.specs.List.{All, FoldsTo, after_first, before_first, onto_first, starts_with}
use Rattle.std.specs.Str.{IsUtf8, IsValidUpTo}
use Rattle.prefixes_core.specs.Networks.{IsNetworkFault}
use Rattle.prefixes_core.specs.declared.lines.LineFormat.{LineFormat}
use Rattle.prefixes_core.specs.declared.listing.EntryError.{EntryError}
use Rattle.prefixes_core.specs.declared.listing.EntryError.TheVariants as Refusals
use Rattle.prefixes_core.specs.declared.listing.ListError.{ListError}
use Rattle.prefixes_core.specs.declared.listing.ListError.TheVariants as Errors
use Rattle.prefixes_core.specs.declared.listing.NameError.{NameError}
use Rattle.prefixes_core.specs.declared.listing.NameError.TheVariants as Names
use Rattle.prefixes_core.specs.declared.listing.Values.{Values}
use Rattle.prefixes_core.specs.declared.listing.Values.TheVariants as Need

-- bytes cut after each byte `end`, which is dropped: the rest after the last one is a line if it
-- has a byte
abbrev pub cut_at : ℕ → List ℕ → List (List ℕ)
cut_at end [] = []
cut_at end (b ∷ bytes) =
    if b == end then [] ∷ cut_at end bytes else onto_first b (cut_at end bytes)

-- the text of a line: all of it but a carriage return at its end, unless that is kept
abbrev pub line_text : LineFormat → List ℕ → List ℕ
line_text format line = if format.keeps_cr then line else strip_last 13 line

-- the lines of some bytes
abbrev pub lines_of : LineFormat → List ℕ → List (List ℕ)
lines_of format bytes = list_map (line_text format) (cut_at format.end bytes)

-- the UTF-8 byte order mark
abbrev pub byte_order_mark : List ℕ
byte_order_mark = 0xef ∷ 0xbb ∷ 0xbf ∷ []

-- the bytes of a list or an input without the byte order mark that they begin with, unless that is
-- kept
abbrev pub unmarked : LineFormat → List ℕ → List ℕ
unmarked format bytes =
    if not format.keeps_cr && starts_with nat_eq bytes byte_order_mark then drop 3 bytes
    else bytes

-- the name on a line: all before its first byte 9, and the whole line where it has none
abbrev pub name_of : List ℕ → List ℕ
name_of line = before_first (λ b. b == 9) line

-- the value of that name: all behind the first byte 9, and no byte where the line has none
abbrev pub value_of : List ℕ → List ℕ
value_of line = after_first (λ b. b == 9) line

-- the most bytes of a name in tree bytes: 65,535 labels of 255 bytes lie below the root
abbrev pub most_packed : ℕ
most_packed = 16711425

-- what each error says of a name that is not taken
abbrev pub IsNameFault : List ℕ → NameError → Type 0
IsNameFault name (Names.Network fault) = IsNetworkFault name fault
IsNameFault name Names.TooLong = most_packed < length name

module _ (IsName : List ℕ → Type 0) where
  -- a line is empty, or its name is UTF-8, is one that is taken and, if values are needed, is not
  -- the whole line
  abbrev pub IsListLine : Values → List ℕ → Type 0
  IsListLine values [] = Unit {0}
  IsListLine values (b ∷ line) =
      IsUtf8 (name_of (b ∷ line)) × IsName (name_of (b ∷ line))
      × (values ≡ Need.Needed → name_of (b ∷ line) ≢ b ∷ line)

  -- what each error says of the line with this number
  abbrev pub IsLineFault : Values → ℕ → List ℕ → ListError → Type 0
  IsLineFault values number line (Errors.NotUtf8 n at) =
      (n ≡ number) × (IsUtf8 (name_of line) → ⊥) × IsValidUpTo (name_of line) at
  IsLineFault values number line (Errors.NoTab n) =
      (n ≡ number) × (values ≡ Need.Needed) × (name_of line ≡ line)
  IsLineFault values number line (Errors.Name n fault) =
      (n ≡ number) × (IsName (name_of line) → ⊥) × IsNameFault (name_of line) fault
  IsLineFault values number line Errors.Memory = Unit {0}
  IsLineFault values number line _ = ⊥

  -- what each error says of lines: the first that is not right, counted from 1
  abbrev pub IsListFault : Values → List (List ℕ) → ListError → Type 0
  IsListFault values lines (Errors.Read error) = Unit {0}
  IsListFault values lines Errors.Memory = Unit {0}
  IsListFault values lines e =
      (before : List (List ℕ)) × (line : List ℕ) × (after : List (List ℕ))
      × (lines ≡ before ++ line ∷ after) × All (IsListLine values) before
      × IsLineFault values (length before + 1) line e

  -- what an error says of the name of an entry that is not added
  abbrev pub IsEntryFault : List ℕ → EntryError → Type 0
  IsEntryFault name (Refusals.Name fault) = (IsName name → ⊥) × IsNameFault name fault
  IsEntryFault name Refusals.Memory = Unit {0}

module _ {S : Type 0} (Adds : S → List ℕ → List ℕ → S → Type 0) where
  -- what a list has once a line is read: an empty line is passed over, and the name of any other
  -- line is added with its value
  abbrev pub AddsLine : S → List ℕ → S → Type 0
  AddsLine old [] new = new ≡ old
  AddsLine old (b ∷ line) new = Adds old (name_of (b ∷ line)) (value_of (b ∷ line)) new

  -- what it has once all entries are added, from the first to the last
  abbrev pub AddsEntries : S → List (List ℕ × List ℕ) → S → Type 0
  AddsEntries old entries new = FoldsTo (λ list e. Adds list e.0 e.1) old entries new

  -- what it has once all lines are read
  abbrev pub AddsLines : S → List (List ℕ) → S → Type 0
  AddsLines old lines new = FoldsTo AddsLine old lines new
