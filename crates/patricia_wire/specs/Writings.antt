-- What bytes mean, and the one tight encoding of a set of keys, which is given as a list in order.
use Rattle.std.specs.Prelude.{◌≡◌, ℕ, ◌<◌, ◌≤◌, ◌^◌, true, false, List, [], ◌∷◌, ◌++◌, length, All}
use Rattle.std.specs.Prelude.{Any}
use Rattle.patricia_keys.specs.Keys.{Begins}
use Rattle.patricia_model.specs.Siblings.{keys_of}
use Rattle.patricia_model.specs.Walks.{values_of}
use Rattle.patricia_wire.specs.Records.{Record, HasRoom, EncodeAll, canonical_bytes_of}
use Rattle.patricia_wire.specs.Forests.{Root}

module _ (item : List ℕ → Type 0) where
  -- the bytes spell a tree with the keys of these entries, whose values are the given ones in turn
  pub record Means {V : Type 0} (w : ℕ) (b : List ℕ) (values : List V) (entries : List (List ℕ × V))
      : Type 0 where
    pub records : List Record
    pub spelled : EncodeAll w records b
    pub root : Root item records (keys_of entries)
    pub in_place : values ≡ values_of entries

  -- where r has no value, and its child, which is the record after it, has no sibling,
  -- the label of r joined with the first item of the child's is longer than 255 bytes
  abbrev pub StaysApart : Record → Record → Type 0
  StaysApart r child =
      r.value ≡ false → r.child ≡ true → child.sibling ≡ false
      → (i : List ℕ) → item i → Begins i child.label → 255 < length (r.label ++ i)

  -- so does each record and the one after it
  abbrev pub StayApart : List Record → Type 0
  StayApart [] = Unit {0}
  StayApart (r ∷ []) = Unit {0}
  StayApart (r ∷ c ∷ R) = StaysApart r c × StayApart (c ∷ R)

  -- the records of a tree stay apart, the root aside, which is never joined
  abbrev pub IsTight : List Record → Type 0
  IsTight [] = Unit {0}
  IsTight (root ∷ R) = StayApart R

  -- b is the clean spelling of a tight tree with exactly these keys, its levels in w bytes
  pub record Canon (w : ℕ) (b : List ℕ) (keys : List (List ℕ)) : Type 0 where
    pub records : List Record
    pub root : Root item records keys
    pub tight : IsTight records
    pub room : All (HasRoom w) records
    pub is : b ≡ canonical_bytes_of w records

  -- a tight tree with exactly these keys has a level that w bytes cannot hold
  pub record TooDeep (w : ℕ) (keys : List (List ℕ)) : Type 0 where
    pub records : List Record
    pub root : Root item records keys
    pub tight : IsTight records
    pub deep : Any (λ r. 256 ^ w ≤ r.level) records
