-- What may be wrong with an input, as conditions on the records that it begins with, and the error
-- that names it.
use Rattle.std.specs.Prelude.{◌≡◌, ◌≢◌, ◌⊎◌, ℕ, ◌+◌, ◌<◌, ◌≤◌, true, false, List, [], ◌∷◌, ◌++◌}
use Rattle.std.specs.Prelude.{length, All, sum_by, slice_index}
use Rattle.std.specs.declared.cmp.Ordering.TheVariants.{Less}
use Rattle.patricia_keys.specs.Keys.{IsValid, ComparesFirst}
use Rattle.patricia_wire.specs.Records.{Record, Encodes, EncodeAll, bit_if}
use Rattle.patricia_wire.specs.Forests.{Root}
use Rattle.patricia_wire.specs.declared.error.DecodeError.{DecodeError}
use Rattle.patricia_wire.specs.declared.error.DecodeError.TheVariants.{Memory, Truncated, Level}
use Rattle.patricia_wire.specs.declared.error.DecodeError.TheVariants.{RootLabel, RootSibling}
use Rattle.patricia_wire.specs.declared.error.DecodeError.TheVariants.{EmptyLabel, InvalidLabel}
use Rattle.patricia_wire.specs.declared.error.DecodeError.TheVariants.{SiblingOrder, NoValueNoChild}
use Rattle.patricia_wire.specs.declared.error.DecodeError.TheVariants.{TooFewValues, TrailingBytes}
use Rattle.patricia_wire.specs.declared.error.DecodeError.TheVariants.{TooManyValues}

-- how many of the records have a value mark
abbrev pub value_marks : List Record → ℕ
value_marks R = sum_by (λ r. bit_if r.value 1) R

-- x is the last of the records that does not lie deeper than d
pub record IsLastUpTo (before : List Record) (d : ℕ) (x : Record) : Type 0 where
  pub ahead : List Record
  pub after : List Record
  pub is : before ≡ ahead ++ (x ∷ after)
  pub level : x.level ≤ d
  pub deeper : All (λ y. d < y.level) after

-- x has a sibling mark, and no record after it has its level or a lower one
abbrev pub Waits : Record → List Record → Type 0
Waits x after = (x.sibling ≡ true) × All (λ y. x.level < y.level) after

-- x is the last record that waits for its sibling
pub record IsLastWaiting (before : List Record) (x : Record) : Type 0 where
  pub ahead : List Record
  pub after : List Record
  pub is : before ≡ ahead ++ (x ∷ after)
  pub waits : Waits x after
  pub last :
      (between : List Record) (y : Record) (rest : List Record)
      → after ≡ between ++ (y ∷ rest) → Waits y rest → ⊥

-- the level that is due behind these records: the root's at first, then that of a child,
-- then that of the sibling that is waited for; where none is waited for, no level is due
pub data IsDue : List Record → ℕ → Type 0 where
  at_first : IsDue [] 0
  below :
      (ahead : List Record) (r : Record) → r.child ≡ true → IsDue (ahead ++ (r ∷ [])) (r.level + 1)
  beside :
      (ahead : List Record) (r x : Record) → r.child ≡ false → IsLastWaiting (ahead ++ (r ∷ [])) x
      → IsDue (ahead ++ (r ∷ [])) x.level

-- the bytes of b before the offset spell these records, and the rest follows
pub record Reads (w : ℕ) (b : List ℕ) (before : List Record) (offset : ℕ) (rest : List ℕ)
    : Type 0 where
  pub read : List ℕ
  pub spelled : EncodeAll w before read
  pub joined : read ++ rest ≡ b
  pub ends : length read ≡ offset

-- too few bytes are left for a record: for its flags, length and level, or for its label
abbrev pub IsCutShort : ℕ → List ℕ → Type 0
IsCutShort w rest = (length rest < 2 + w) ⊎ (length rest < 2 + w + slice_index rest 1)

module _ (item : List ℕ → Type 0) where
  -- the record r, behind these records and with n values, breaks a rule. Each rule has a number,
  -- and an error that names it with the offset at which the record begins. Siblings fall where the
  -- first item of the label before is not less than that of r's label; no item is less than any
  -- item
  pub data Breaks (before : List Record) (r : Record) (n at : ℕ) : ℕ → DecodeError → Type 0 where
    other_level : (IsDue before r.level → ⊥) → Breaks before r n at 3 (Level at)
    labelled_root : before ≡ [] → r.label ≢ [] → Breaks before r n at 4 (RootLabel at)
    root_of_siblings : before ≡ [] → r.sibling ≡ true → Breaks before r n at 5 (RootSibling at)
    no_label : before ≢ [] → r.label ≡ [] → Breaks before r n at 6 (EmptyLabel at)
    not_valid : (IsValid item r.label → ⊥) → Breaks before r n at 7 (InvalidLabel at)
    falling :
        (x : Record) → IsLastUpTo before r.level x → x.level ≡ r.level
        → (ComparesFirst item x.label r.label Less → ⊥) → Breaks before r n at 8 (SiblingOrder at)
    bare :
        before ≢ [] → r.value ≡ false → r.child ≡ false
        → Breaks before r n at 9 (NoValueNoChild at)
    no_value :
        n < value_marks (before ++ (r ∷ [])) → Breaks before r n at 10 (TooFewValues at)

  -- no prefix of the records is a whole tree
  abbrev pub IsUnfinished : List Record → Type 0
  IsUnfinished before =
      (P X : List Record) (E : List (List ℕ)) → before ≡ P ++ X → Root item P E → ⊥

  -- the rule of this number is broken at the offset in the input b with n values, and the error
  -- names it: all before the offset are whole records, and none but the last two rules can be
  -- broken behind a whole tree
  pub data Stands (w : ℕ) (b : List ℕ) (n : ℕ) : ℕ → ℕ → DecodeError → Type 0 where
    cut_short :
        {at : ℕ} (before : List Record) (rest : List ℕ) → Reads w b before at rest
        → IsUnfinished before → IsCutShort w rest → Stands w b n 2 at (Truncated at)
    in_record :
        {number at : ℕ} {e : DecodeError} (before : List Record) (r : Record)
        (first rest : List ℕ) → Reads w b before at (first ++ rest) → IsUnfinished before
        → Encodes w r first → Breaks before r n at number e → Stands w b n number at e
    trailing :
        {at : ℕ} (R : List Record) (E : List (List ℕ)) (rest : List ℕ) → Reads w b R at rest
        → Root item R E → rest ≢ [] → Stands w b n 11 at (TrailingBytes at)
    too_many :
        (R : List Record) (E : List (List ℕ)) → EncodeAll w R b → Root item R E
        → value_marks R < n → Stands w b n 12 (length b) TooManyValues

  -- the error names the broken rule of least offset, and there of least number
  pub record IsFirst (w : ℕ) (b : List ℕ) (n : ℕ) (e : DecodeError) : Type 0 where
    pub number : ℕ
    pub at : ℕ
    pub stands : Stands w b n number at e
    pub first :
        (other place : ℕ) (f : DecodeError) → Stands w b n other place f
        → (at < place) ⊎ ((at ≡ place) × (number ≤ other))

  -- the error is out of memory, which says nothing of the input, or it names what is first wrong
  abbrev pub IsRefusal : ℕ → List ℕ → ℕ → DecodeError → Type 0
  IsRefusal w b n e = (e ≡ Memory) ⊎ IsFirst w b n e
