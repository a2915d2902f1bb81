-- What the bytes are that a tree is written as.
use Rattle.std.specs.Prelude.{◌≡◌, ◌↔◌, ℕ, List}
use Rattle.patricia_model.specs.Siblings.{keys_of}
use Rattle.patricia_model.specs.Walks.{values_of}
use Rattle.patricia_wire.specs.Records.{Record, EncodeAll}
use Rattle.patricia_wire.specs.Writings.{Means, Canon, TooDeep}
use Rattle.patricia_wire.specs.Counts.{LabelsAreFronts, RecordsArePoints, AreFew}

module _ (item : List ℕ → Type 0) where
  -- b is the encoding of the entries' keys, and with the entries' values it means the entries
  pub record AreTreeBytes {V : Type 0} (w : ℕ) (b : List ℕ)
      (entries : List (List ℕ × V)) : Type 0 where
    -- the bytes and the values, in key order, mean these entries
    pub means : Means item w b (values_of entries) entries
    -- no other bytes are the encoding of the keys
    pub one_writing : (c : List ℕ) → Canon item w c (keys_of entries) ↔ (c ≡ b)
    -- and they are the encoding of no other keys
    pub one_key_set : (S : List (List ℕ)) → Canon item w b S ↔ (S ≡ keys_of entries)
    -- the keys do not lie too deep
    pub not_too_deep : TooDeep item w (keys_of entries) → ⊥
    -- how many bytes the labels have, and how many records there are
    pub fronts : (R : List Record) → EncodeAll w R b → LabelsAreFronts item R (keys_of entries)
    pub points : (R : List Record) → EncodeAll w R b → RecordsArePoints item R (keys_of entries)
    pub few : (R : List Record) → EncodeAll w R b → AreFew R (keys_of entries)
