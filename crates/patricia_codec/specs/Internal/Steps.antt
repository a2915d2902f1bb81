-- What the steps of the reader say.
use Rattle.std.specs.Prelude.{◌≡◌, ◌⊎◌, ℕ, ◌+◌, ◌<◌, ◌≤◌, List, [], ◌∷◌, ◌++◌, length, drop}
use Rattle.std.specs.Prelude.{reverse, All, Option, Some, None}
use Rattle.std.specs.declared.cmp.Ordering.TheVariants.{Less}
use Rattle.patricia_keys.specs.Keys.{IsValid, ComparesFirst}
use Rattle.patricia_model.specs.Siblings.{IsBefore}
use Rattle.patricia_wire.specs.Records.{Record, Encodes}
use Rattle.patricia_wire.specs.Forests.{Root}
use Rattle.patricia_wire.specs.Faults.{value_marks, Reads, IsRefusal}
use Rattle.patricia_wire.specs.Internal.Readings.{Rule, error_at, Due, child_due, sibling_due}
use Rattle.patricia_wire.specs.Internal.Readings.{due_behind, IsRead, IsAfter, BreaksNone}
use Rattle.patricia_wire.specs.Internal.Readings.{BreaksFirst}
use Rattle.patricia_wire.specs.declared.error.DecodeError.{DecodeError}
use Rattle.patricia_wire.specs.declared.error.DecodeError.TheVariants.{InvalidLabel, SiblingOrder}
use Rattle.patricia_codec.specs.declared.reader.Reader.{Reader}

-- the bytes begin with the spelling of the record
pub record Fronts (w : ℕ) (r : Record) (bytes : List ℕ) : Type 0 where
  pub first : List ℕ
  pub rest : List ℕ
  pub spelled : Encodes w r first
  pub joined : bytes ≡ first ++ rest

-- what is due behind a record, the next last
abbrev pub sibling_then_child : Record → List Due
sibling_then_child r = sibling_due r ++ child_due r

-- nothing is read, and the root is due
pub record IsReaderStart (p : Reader) : Type 0 where
  pub offset : p.offset ≡ 0
  pub due : p.due.items ≡ (record { level = 0; after = None }) ∷ []

module _ (item : List ℕ → Type 0) where
  -- the first item of the sibling before is not less than that of a sibling's label
  abbrev pub IsOutOfOrder : Due → List ℕ → Type 0
  IsOutOfOrder due label =
      (l : List ℕ) × (due.after ≡ Some l) × (ComparesFirst item l label Less → ⊥)

  -- a sibling's label comes behind that of the sibling before it
  abbrev pub IsInOrder : Due → List ℕ → Type 0
  IsInOrder due label = (l : List ℕ) → due.after ≡ Some l → IsBefore item l label

  -- the error names the first rule that the record breaks
  pub record NamesFirst (due : Due) (left : ℕ)
      (r : Record) (offset : ℕ) (e : DecodeError) : Type 0 where
    pub rule : Rule
    pub names : e ≡ error_at offset rule
    pub broken : BreaksFirst item due left r rule

  -- a label is valid and in order; or the error names which of the two it is not
  abbrev pub KeepsLabel : Due → List ℕ → Type 0
  KeepsLabel due label = IsValid item label × IsInOrder due label

  abbrev pub BreaksLabel : Due → List ℕ → ℕ → DecodeError → Type 0
  BreaksLabel due label offset e =
      ((e ≡ InvalidLabel offset) × (IsValid item label → ⊥))
      ⊎ ((e ≡ SiblingOrder offset) × IsValid item label × IsOutOfOrder due label)

  -- the record keeps all rules
  pub record IsAccepted (due : Due) (left : ℕ) (r : Record) : Type 0 where
    pub rules : BreaksNone item due left r
    pub label : KeepsLabel due r.label

module _ (item : List ℕ → Type 0) (w : ℕ) where
  -- these records are read, and these are due, the next first
  pub record IsReading (n : ℕ) (p : Reader) (before : List Record) (due : List Due) : Type 0 where
    pub read : IsRead item n before due
    pub reads : Reads w p.bytes.now before p.offset (drop p.offset p.bytes.now)
    pub due_is : reverse p.due.items ≡ due
    pub after : All (IsAfter item) due

  -- some records are read, and so many values are left
  pub record HasRead (p : Reader) (left : ℕ) : Type 0 where
    pub n : ℕ
    pub before : List Record
    pub due : List Due
    pub reading : IsReading n p before due
    pub counted : left + value_marks before ≡ n

  -- whatever was read, the record is read behind it, and it breaks no rule
  pub record ReadsRecord (left : ℕ) (old : Reader) (r : Record) (new : Reader) : Type 0 where
    pub further : old.offset < new.offset
    pub fits : length r.label ≤ 255
    pub reading :
        (n : ℕ) (before : List Record) (due : List Due) → IsReading n old before due
        → left + value_marks before ≡ n
        → (next : Due) × (waiting : List Due) × (due ≡ next ∷ waiting) × IsAccepted item next left r
        × IsReading n new (before ++ (r ∷ [])) (due_behind r ++ waiting)

  -- nothing is due, whatever was read
  abbrev pub ReachesEnd : Reader → Reader → Type 0
  ReachesEnd old new =
      (n : ℕ) (before : List Record) (due : List Due) → IsReading n old before due
      → (due ≡ []) × IsReading n new before []

  -- a record is read, or nothing is due
  abbrev pub ReadsOn : ℕ → Reader → Option Record → Reader → Type 0
  ReadsOn left old None new = ReachesEnd old new
  ReadsOn left old (Some r) new = ReadsRecord left old r new

  -- the bytes are refused, whatever was read
  abbrev pub ReadIsRefused : ℕ → Reader → DecodeError → Type 0
  ReadIsRefused left p e =
      (n : ℕ) (before : List Record) (due : List Due) → IsReading n p before due
      → left + value_marks before ≡ n
      → IsRefusal item w p.bytes.now n e

  -- the bytes behind a whole tree, or the values that are left, are refused
  abbrev pub IsRefusedAfter : ℕ → Reader → DecodeError → Type 0
  IsRefusedAfter left p e =
      (n : ℕ) (R : List Record) (E : List (List ℕ)) → IsReading n p R []
      → left + value_marks R ≡ n → Root item R E
      → IsRefusal item w p.bytes.now n e
