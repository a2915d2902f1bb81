-- What the laws of the wire form say, each in one sentence.
use Rattle.std.specs.Prelude.{◌≡◌, ◌↔◌, ◌⊎◌, ℕ, ◌<◌, List, length, All}
use Rattle.std.specs.FinMap as map
use Rattle.patricia_keys.specs.Keys.{IsValid, key_cmp}
use Rattle.patricia_model.specs.Siblings.{keys_of}
use Rattle.patricia_model.specs.Walks.{values_of}
use Rattle.patricia_wire.specs.Records.{Record}
use Rattle.patricia_wire.specs.Forests.{Root}
use Rattle.patricia_wire.specs.Writings.{Means, IsTight, Canon, TooDeep}
use Rattle.patricia_wire.specs.Counts.{LabelsAreFronts, RecordsArePoints, AreFew}
use Rattle.patricia_wire.specs.TreeBytes.{AreTreeBytes}
use Rattle.patricia_wire.specs.Faults.{IsFirst, Stands, IsRefusal}
use Rattle.patricia_wire.specs.declared.error.DecodeError.{DecodeError}
use Rattle.patricia_wire.specs.declared.error.DecodeError.TheVariants.{Memory}

module _ (item : List ℕ → Type 0) where
  -- a set of keys has one encoding
  abbrev pub HasOneWriting : Type 0
  HasOneWriting =
      (w : ℕ) (b c : List ℕ) (S : List (List ℕ)) → Canon item w b S → Canon item w c S → b ≡ c

  -- bytes are the encoding of one set of keys
  abbrev pub HasOneKeySet : Type 0
  HasOneKeySet =
      (w : ℕ) (b : List ℕ) (S T : List (List ℕ)) → Canon item w b S → Canon item w b T → S ≡ T

  -- bytes mean one list of entries with these values
  abbrev pub HasOneMeaning : Type 0 → Type 0
  HasOneMeaning V =
      (w : ℕ) (b : List ℕ) (values : List V) (M N : List (List ℕ × V))
      → Means item w b values M → Means item w b values N → M ≡ N

  -- what bytes mean is the entries of a finite map, and its keys are valid
  abbrev pub MeansMap : Type 0 → Type 0
  MeansMap V =
      (w : ℕ) (b : List ℕ) (values : List V) (M : List (List ℕ × V)) → Means item w b values M
      → (m : map.FinMap key_cmp V) × (map.entries m ≡ M) × All (IsValid item) (map.keys m)

  -- the encoding of the keys of entries means these entries
  abbrev pub WritingMeansEntries : Type 0 → Type 0
  WritingMeansEntries V =
      (w : ℕ) (b : List ℕ) (entries : List (List ℕ × V))
      → Canon item w b (keys_of entries) → Means item w b (values_of entries) entries

  -- the keys of a finite map, if they are valid, have an encoding, or lie too deep for one
  abbrev pub IsWrittenOrTooDeep : Type 0 → Type 0
  IsWrittenOrTooDeep V =
      (w : ℕ) (m : map.FinMap key_cmp V) → All (IsValid item) (map.keys m)
      → ((b : List ℕ) × Canon item w b (map.keys m)) ⊎ TooDeep item w (map.keys m)

  -- and never both
  abbrev pub IsNeverBoth : Type 0
  IsNeverBoth = (w : ℕ) (b : List ℕ) (S : List (List ℕ)) → Canon item w b S → TooDeep item w S → ⊥

  -- in a tight tree, where each item is one byte, the labels have a byte for each front of its keys
  abbrev pub CountsFronts : Type 0
  CountsFronts =
      (R : List Record) (S : List (List ℕ)) → Root item R S → IsTight item R
      → LabelsAreFronts item R S

  -- a tight tree of short keys has a record for each point of its keys, and one more
  abbrev pub CountsPoints : Type 0
  CountsPoints =
      (R : List Record) (S : List (List ℕ)) → Root item R S → IsTight item R
      → RecordsArePoints item R S

  -- a tight tree of short keys has at most two records for each key
  abbrev pub HasFewRecords : Type 0
  HasFewRecords =
      (R : List Record) (S : List (List ℕ)) → Root item R S → IsTight item R → AreFew R S

  -- two tight trees with the same keys are the same list of records
  abbrev pub HasOneTightTree : Type 0
  HasOneTightTree =
      (R X : List Record) (S : List (List ℕ)) → Root item R S → Root item X S
      → IsTight item R → IsTight item X → R ≡ X

  -- a list of records holds one list of keys
  abbrev pub HasOneKeyList : Type 0
  HasOneKeyList = (R : List Record) (S T : List (List ℕ)) → Root item R S → Root item R T → S ≡ T

  -- the keys of a tree of records are those of a finite map, and valid
  abbrev pub HoldsKeysOfMap : Type 0
  HoldsKeysOfMap =
      (R : List Record) (S : List (List ℕ)) → Root item R S
      → (m : map.FinMap key_cmp (Unit {0})) × (map.keys m ≡ S) × All (IsValid item) S

  -- an input has one first fault
  abbrev pub HasOneFirstFault : Type 0
  HasOneFirstFault =
      (w : ℕ) (b : List ℕ) (n : ℕ) (e f : DecodeError)
      → IsFirst item w b n e → IsFirst item w b n f → e ≡ f

  -- no fault stands in bytes that mean entries with so many values
  abbrev pub HasNoFaultWhereMeant : Type 0 → Type 0
  HasNoFaultWhereMeant V =
      (w : ℕ) (b : List ℕ) (values : List V) (M : List (List ℕ × V)) (number at : ℕ)
      (e : DecodeError) → Means item w b values M → Stands item w b (length values) number at e → ⊥

  -- so such bytes and values have no first fault: an allocation failure alone refuses them
  abbrev pub HasNoFirstFaultWhereMeant : Type 0 → Type 0
  HasNoFirstFaultWhereMeant V =
      (w : ℕ) (b : List ℕ) (values : List V) (M : List (List ℕ × V)) (e : DecodeError)
      → Means item w b values M → IsFirst item w b (length values) e → ⊥

  -- bytes and values that mean entries are refused by no error but that of memory
  abbrev pub RefusesNothingMeant : Type 0 → Type 0
  RefusesNothingMeant V =
      (w : ℕ) (b : List ℕ) (values : List V) (M : List (List ℕ × V)) (e : DecodeError)
      → Means item w b values M → IsRefusal item w b (length values) e → e ≡ Memory

  -- of each list of bytes it can be told whether it is a valid key
  abbrev pub TellsValid : Type 0
  TellsValid = (l : List ℕ) → IsValid item l ⊎ (IsValid item l → ⊥)

  -- bytes and values mean entries, or have a first fault
  abbrev pub MeansOrHasFirstFault : Type 0 → Type 0
  MeansOrHasFirstFault V =
      (w : ℕ) (b : List ℕ) (values : List V) → All (λ x. x < 256) b
      → ((M : List (List ℕ × V)) × Means item w b values M)
      ⊎ ((e : DecodeError) × IsFirst item w b (length values) e)

  -- no bytes and values are without entries and without a first fault
  abbrev pub NeverLacksBoth : Type 0 → Type 0
  NeverLacksBoth V =
      (w : ℕ) (b : List ℕ) (values : List V) → All (λ x. x < 256) b
      → ((M : List (List ℕ × V)) → Means item w b values M → ⊥)
      → ((e : DecodeError) → IsFirst item w b (length values) e → ⊥) → ⊥

  -- the tree bytes of entries, with the values of the entries in turn, mean these entries and no
  -- others
  abbrev pub ReadsBack : Type 0 → Type 0
  ReadsBack V =
      (w : ℕ) (b : List ℕ) (entries M : List (List ℕ × V))
      → AreTreeBytes item w b entries → Means item w b (values_of entries) M → M ≡ entries

  -- two maps have equal tree bytes exactly where they have the same keys
  abbrev pub TellsKeySets : Type 0 → Type 0 → Type 0
  TellsKeySets V W =
      (w : ℕ) (b c : List ℕ) (entries : List (List ℕ × V)) (others : List (List ℕ × W))
      → AreTreeBytes item w b entries → AreTreeBytes item w c others
      → (b ≡ c) ↔ (keys_of entries ≡ keys_of others)

  -- the values have no part in the tree bytes
  abbrev pub DependsOnKeysAlone : Type 0 → Type 0 → Type 0
  DependsOnKeysAlone V W =
      (w : ℕ) (b : List ℕ) (entries : List (List ℕ × V)) (others : List (List ℕ × W))
      → keys_of entries ≡ keys_of others
      → AreTreeBytes item w b entries ↔ AreTreeBytes item w b others
