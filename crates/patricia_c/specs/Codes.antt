-- How a fault of tree bytes is returned to C: a code, and the offset of what is at fault.
use Rattle.std.specs.Prelude.{◌≡◌, ℕ, List, length}
use Rattle.patricia_tree.specs.Faults.{IsRefusal}
use Rattle.patricia_tree.specs.Keys.{IsValid}
use Rattle.patricia_tree.specs.Points.{Has}
use Rattle.patricia_tree.specs.TreeBytes.{AreTreeBytes}
use Rattle.patricia_wire.specs.declared.error.DecodeError.{DecodeError}
use Rattle.patricia_wire.specs.declared.error.DecodeError.TheVariants.{Memory, Truncated, Level}
use Rattle.patricia_wire.specs.declared.error.DecodeError.TheVariants.{RootLabel, RootSibling}
use Rattle.patricia_wire.specs.declared.error.DecodeError.TheVariants.{EmptyLabel, InvalidLabel}
use Rattle.patricia_wire.specs.declared.error.DecodeError.TheVariants.{SiblingOrder, NoValueNoChild}
use Rattle.patricia_wire.specs.declared.error.DecodeError.TheVariants.{TooFewValues, TrailingBytes}
use Rattle.patricia_wire.specs.declared.error.DecodeError.TheVariants.{TooManyValues}

-- the code of an error, 2 where memory ran out, else 10 more than the number of the rule that is
-- broken; and the offset that the error names, or 0
abbrev pub IsCode : DecodeError → ℕ → ℕ → Type 0
IsCode Memory code at = (code ≡ 2) × (at ≡ 0)
IsCode (Truncated n) code at = (code ≡ 12) × (at ≡ n)
IsCode (Level n) code at = (code ≡ 13) × (at ≡ n)
IsCode (RootLabel n) code at = (code ≡ 14) × (at ≡ n)
IsCode (RootSibling n) code at = (code ≡ 15) × (at ≡ n)
IsCode (EmptyLabel n) code at = (code ≡ 16) × (at ≡ n)
IsCode (InvalidLabel n) code at = (code ≡ 17) × (at ≡ n)
IsCode (SiblingOrder n) code at = (code ≡ 18) × (at ≡ n)
IsCode (NoValueNoChild n) code at = (code ≡ 19) × (at ≡ n)
IsCode (TooFewValues n) code at = (code ≡ 20) × (at ≡ n)
IsCode (TrailingBytes n) code at = (code ≡ 21) × (at ≡ n)
IsCode TooManyValues code at = (code ≡ 22) × (at ≡ 0)

-- whatever the items of keys are
module _ (item : List ℕ → Type 0) where
  -- the code and the offset are those of an error with which these bytes and so many values are
  -- refused: the first fault that stands in them, or out of memory
  pub record IsRefused (w : ℕ) (bytes : List ℕ) (n code at : ℕ) : Type 0 where
    pub error : DecodeError
    pub is_code : IsCode error code at
    pub refuses : IsRefusal item w bytes n error

  -- the tree bytes of the entries are n bytes
  pub record IsLen {V : Type 0} (w n : ℕ) (entries : List (List ℕ × V)) : Type 0 where
    pub bytes : List ℕ
    pub are : AreTreeBytes item w bytes entries
    pub len : n ≡ length bytes

  -- some key is no list of items
  pub record HasOther (keys : List (List ℕ)) : Type 0 where
    pub key : List ℕ
    pub is_key : Has keys key
    pub is_other : IsValid item key → ⊥
