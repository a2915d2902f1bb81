-- The heads of nodes: what their bits say, and how they change.
use Rattle.std.proofs.Common.{◌≡◌, ℕ, ◌+◌, ◌*◌, ◌<◌, ◌≤◌, List, length}
use Rattle.std.proofs.Common.{refl, sym, ap, ◌∙◌, inl, inr, arith}
use Rattle.std.specs.Prelude.{◌⊎◌, ◌/◌, ◌%◌, Option, Some, None, IfSome}
use Rattle.std.proofs.lemmas.Bool.Decides.{nat_tests}
use Rattle.patricia_store.specs.Internal.Packing.{most}
use Rattle.patricia_store.specs.declared.packed.Packed.{Packed}
use Rattle.patricia_store.specs.Internal.Heads.{byte_of, short_len_of, leaf_bit_of, apart_bit_of}
use Rattle.patricia_store.specs.Internal.Heads.{word_of, link_of, next_of, head_of, child_in, sibling_in, offset_in}
use Rattle.patricia_store.specs.Internal.Heads.{with_child, with_sibling}
use Rattle.patricia_store.proofs.PackingLemmas.{number-packed}

-- the bit of a sibling is 0 where the next node is the sibling, and else the highest
apart_cases : (next : ℕ) (s : Option ℕ)
    → ((apart_bit_of next s ≡ 0) × (s ≡ Some next)) ⊎ (apart_bit_of next s ≡ 32768)
apart_cases next None = inr refl
apart_cases next (Some k) = grind (arith, nat_tests)

-- it is 0 where the next node is the sibling
apart_none : (next : ℕ) (s : Option ℕ) → s ≡ Some next → apart_bit_of next s ≡ 0
apart_none next s e = rw e (grind (arith, nat_tests))

-- and it is one of the two
apart_bit : (next : ℕ) (s : Option ℕ) → (apart_bit_of next s ≡ 0) ⊎ (apart_bit_of next s ≡ 32768)
apart_bit next s = elim (apart_cases next s) [
  | inl same ↦ inl same.0
  | inr other ↦ inr other
]

-- the bit of a child is 0 where there is one, and else 64
leaf_cases : (c : Option ℕ) → (leaf_bit_of c ≡ 0) ⊎ (leaf_bit_of c ≡ 64)
leaf_cases None = inr refl
leaf_cases (Some k) = inl refl

-- a short length has six bits
short_small : (l : List ℕ) → short_len_of l < 64
short_small l = grind (arith, nat_tests)

-- a length below 63 is that of the label
pub short_exact : (l : List ℕ) (n : ℕ) → n ≡ short_len_of l → n < 63 → length l ≡ n
short_exact l n e less = grind (arith, nat_tests)

module _ (a l b m : ℕ) (apart : (a ≡ 0) ⊎ (a ≡ 32768)) (leaf : (l ≡ 0) ⊎ (l ≡ 64)) (byte : b < 256)
    (short : m < 64) where
  -- what a word of these bits says of each
  byte_in : (a + (l + (128 * b + m))) / 128 % 256 ≡ b
  byte_in = omega (arith, apart, leaf, byte, short)

  short_in : (a + (l + (128 * b + m))) % 64 ≡ m
  short_in = omega (arith, apart, leaf, byte, short)

  leaf_in : (a + (l + (128 * b + m))) / 64 % 2 ≡ l / 64
  leaf_in = omega (arith, apart, leaf, byte, short)

  front_in : (a + (l + (128 * b + m))) / 128 * 128 ≡ a + 128 * b
  front_in = omega (arith, apart, leaf, byte, short)

  back_in : (a + (l + (128 * b + m))) % 32768 ≡ l + (128 * b + m)
  back_in = omega (arith, apart, leaf, byte, short)

module _ (next : ℕ) (c s : Option ℕ) (l : List ℕ) where
  -- the first byte that a word notes is that of the label
  pub word_byte : word_of next c s l / 128 % 256 ≡ byte_of l
  word_byte = byte_in _ _ (byte_of l) (short_len_of l) (apart_bit next s) (leaf_cases c) (omega arith) (short_small l)

  -- and so is the length
  pub word_short : word_of next c s l % 64 ≡ short_len_of l
  word_short = short_in _ _ (byte_of l) (short_len_of l) (apart_bit next s) (leaf_cases c) (omega arith) (short_small l)

  word_leaf : word_of next c s l / 64 % 2 ≡ leaf_bit_of c / 64
  word_leaf = leaf_in _ _ (byte_of l) (short_len_of l) (apart_bit next s) (leaf_cases c) (omega arith) (short_small l)

  -- a word that is less than one of a byte says that the next node is the sibling, and that the
  -- first byte is less
  pub word_less : (b : ℕ) → b < 256 → word_of next c s l < 128 * b
      → (s ≡ Some next) × (byte_of l < b)
  word_less b small less =
      elim (apart_cases next s) [
        | inl same ↦ (same.1, omega (arith, less, same.0))
        | inr other ↦ absurd (omega (arith, less, other, small))
      ]

  -- one that is not less says that the next node is not the sibling, or that the first byte is not
  pub word_not_less : (b : ℕ) → 128 * b ≤ word_of next c s l → s ≡ Some next → b ≤ byte_of l
  word_not_less b past e =
      omega (arith, past, apart_none next s e, leaf_cases c, short_small l)

  -- another child changes its bit alone
  word_child : (d : Option ℕ) → word_of next d s l
      ≡ word_of next c s l / 128 * 128 + (leaf_bit_of d + word_of next c s l % 64)
  word_child d =
      let front = front_in _ _ (byte_of l) (short_len_of l) (apart_bit next s) (leaf_cases c) (omega arith) (short_small l) in
      let short = word_short in
      omega (arith, front, short)

  -- another sibling changes the highest bit alone
  word_sibling : (to : ℕ) (t : Option ℕ) → word_of to c t l
      ≡ apart_bit_of to t + word_of next c s l % 32768
  word_sibling to t =
      ap (λ k. apart_bit_of to t + k) (sym (back_in _ _ (byte_of l) (short_len_of l) (apart_bit next s) (leaf_cases c) (omega arith) (short_small l)))

-- the child that a head notes is the child
pub child-head : (next : ℕ) (c s : Option ℕ) (l : List ℕ) (offset : Packed)
    → child_in (head_of next c s l offset) ≡ c
child-head next None s l offset = rw (word_leaf next None s l) refl
child-head next (Some k) s l offset = rw (word_leaf next (Some k) s l) (ap (λ n. Some n) (number-packed k))

-- and so is the sibling
pub sibling-head : (next : ℕ) (c s : Option ℕ) (l : List ℕ) (offset : Packed)
    → IfSome s (λ k. k < most) → sibling_in (head_of next c s l offset) ≡ s
sibling-head next c None l offset small = refl
sibling-head next c (Some k) l offset small =
    let same = number-packed k in grind (arith, nat_tests)

-- a leaf's head notes where its label is
offset-leaf : (next : ℕ) (s : Option ℕ) (l : List ℕ) (offset : Packed)
    → offset_in (head_of next None s l offset) ≡ Some offset
offset-leaf next s l offset = rw (word_leaf next None s l) refl

-- and that of another node does not
offset-inner : (next k : ℕ) (s : Option ℕ) (l : List ℕ) (offset : Packed)
    → offset_in (head_of next (Some k) s l offset) ≡ None
offset-inner next k s l offset = rw (word_leaf next (Some k) s l) refl

-- the place of a label that a head notes is that of the label
pub offset-head : (next : ℕ) (c s : Option ℕ) (l : List ℕ) (offset at : Packed)
    → offset_in (head_of next c s l offset) ≡ Some at → at ≡ offset
offset-head next None s l offset at e =
    let same : Some at ≡ Some offset = sym e ∙ offset-leaf next s l offset in cc
offset-head next (Some k) s l offset at e =
    let none : Some at ≡ None = sym e ∙ offset-inner next k s l offset in absurd (cc)

-- the head with another child is that of a node with it
pub child-changed : (next : ℕ) (c s : Option ℕ) (l : List ℕ) (offset at : Packed) (d : Option ℕ)
    → with_child d at (head_of next c s l offset) ≡ head_of next d s l at
child-changed next c s l offset at d =
    ap (λ w. record { word = w; link = link_of d at; next = next_of s }) (sym (word_child next c s l d))

-- and with another sibling, before another node
pub sibling-changed : (next to : ℕ) (c s : Option ℕ) (l : List ℕ) (offset : Packed) (t : Option ℕ)
    → with_sibling to t (head_of next c s l offset) ≡ head_of to c t l offset
sibling-changed next to c s l offset t =
    ap (λ w. record { word = w; link = link_of c offset; next = next_of t }) (sym (word_sibling next c s l to t))
