-- Records of the wire form, and the bytes that spell them.
use Rattle.std.specs.Prelude.{◌≡◌, ℕ, ◌+◌, ◌<◌, ◌≤◌, ◌^◌, Bool, true, false, List, [], ◌∷◌, ◌++◌}
use Rattle.std.specs.Prelude.{length, All, IsTrue, IsBitSet, ◌↔◌}
use Rattle.std.specs.Int.{bytes_high_first}

-- a node as it is written: how many levels it lies below the root, its label, and three marks:
-- whether it has a value, a child and a next sibling
pub record Record : Type 0 where
  pub level : ℕ
  pub label : List ℕ
  pub value : Bool
  pub child : Bool
  pub sibling : Bool

-- the record can be spelled with its level in w bytes
pub record HasRoom (w : ℕ) (r : Record) : Type 0 where
  pub level : r.level < 256 ^ w
  pub label : length r.label ≤ 255
  pub bytes : All (λ b. b < 256) r.label

-- the bits 2, 8 and 32 of the flags are the three marks; the other bits may be anything
pub record AreFlags (r : Record) (flags : ℕ) : Type 0 where
  pub in_a_byte : flags < 256
  pub value : IsTrue r.value ↔ IsBitSet flags 1
  pub child : IsTrue r.child ↔ IsBitSet flags 3
  pub sibling : IsTrue r.sibling ↔ IsBitSet flags 5

-- the bytes behind the flags: the label's length, the level in w bytes, the high byte first,
-- and the label
abbrev pub after_flags : ℕ → Record → List ℕ
after_flags w r = length r.label ∷ (bytes_high_first w r.level ++ r.label)

-- the bytes spell the record
pub record Encodes (w : ℕ) (r : Record) (b : List ℕ) : Type 0 where
  pub flags : ℕ
  pub marks : AreFlags r flags
  pub room : HasRoom w r
  pub is : b ≡ flags ∷ after_flags w r

-- the bytes spell the records, one after the other, and no byte is left
abbrev pub EncodeAll : ℕ → List Record → List ℕ → Type 0
EncodeAll w [] b = b ≡ []
EncodeAll w (r ∷ R) b = record {
  first : List ℕ;
  rest : List ℕ;
  spelled : Encodes w r first;
  others : EncodeAll w R rest;
  joined : b ≡ first ++ rest;
}

-- n where the mark is set, else 0
abbrev pub bit_if : Bool → ℕ → ℕ
bit_if true n = n
bit_if false n = 0

-- the flags with the bits 1, 4 and 16 as the marks, and the bits 64 and 128 clear
abbrev pub canonical_flags : Record → ℕ
canonical_flags r =
    bit_if r.value (1 + 2) + bit_if r.child (4 + 8) + bit_if r.sibling (16 + 32)

-- the clean spelling of a record, which has those flags
abbrev pub canonical_bytes : ℕ → Record → List ℕ
canonical_bytes w r = canonical_flags r ∷ after_flags w r

-- the clean spellings of the records, one after the other
abbrev pub canonical_bytes_of : ℕ → List Record → List ℕ
canonical_bytes_of w [] = []
canonical_bytes_of w (r ∷ R) = canonical_bytes w r ++ canonical_bytes_of w R
