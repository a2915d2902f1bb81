-- Fourteen bytes for each node, which say what look-ups ask of most nodes.
use Rattle.std.specs.Prelude.{ℕ, ◌+◌, ◌*◌, ◌/◌, ◌%◌, List, length, Option, Some, None, nat_eq}
use Rattle.std.specs.Prelude.{nat_lt, if◌then◌else◌, get_or}
use Rattle.patricia_store.specs.declared.head.Head.{Head}
use Rattle.patricia_store.specs.declared.packed.Packed.{Packed}
use Rattle.patricia_store.specs.Internal.Packing.{number, packed, most}

-- the first byte of a label, 0 where there is none; a label has no number past 255
abbrev pub byte_of : List ℕ → ℕ
byte_of label = get_or label 0 0 % 256

-- the length of a label, but 63 where it has more bytes
abbrev pub short_len_of : List ℕ → ℕ
short_len_of label = if nat_lt (length label) 63 then length label else 63

-- the highest bit, where a node before this number has not this number for its sibling
abbrev pub apart_bit_of : ℕ → Option ℕ → ℕ
apart_bit_of next None = 32768
apart_bit_of next (Some sibling) = if nat_eq sibling next then 0 else 32768

-- a bit, where there is no child
abbrev pub leaf_bit_of : Option ℕ → ℕ
leaf_bit_of None = 64
leaf_bit_of (Some child) = 0

-- the bits of a label: its first byte, and its length
abbrev pub label_bits_of : List ℕ → ℕ
label_bits_of label = 128 * byte_of label + short_len_of label

-- the bits of a node before this number: whether the next node is its sibling, the first byte of
-- its label, whether it has no child, and the length of the label
abbrev pub word_of : ℕ → Option ℕ → Option ℕ → List ℕ → ℕ
word_of next child sibling label =
    apart_bit_of next sibling + (leaf_bit_of child + label_bits_of label)

-- the first child, or where there is none, where the label is
abbrev pub link_of : Option ℕ → Packed → Packed
link_of None offset = offset
link_of (Some child) offset = packed child

-- the sibling, or the greatest number where there is none
abbrev pub next_of : Option ℕ → Packed
next_of None = packed most
next_of (Some sibling) = packed sibling

-- the head of a node before this number, with these links, this label and the place of it
abbrev pub head_of : ℕ → Option ℕ → Option ℕ → List ℕ → Packed → Head
head_of next child sibling label offset = record {
  word = word_of next child sibling label;
  link = link_of child offset;
  next = next_of sibling;
}

-- the first child that a head says
abbrev pub child_in : Head → Option ℕ
child_in head = if nat_eq (head.word / 64 % 2) 1 then None else Some (number head.link)

-- where the label is of a node without children, as its head says
abbrev pub offset_in : Head → Option Packed
offset_in head = if nat_eq (head.word / 64 % 2) 1 then Some head.link else None

-- the sibling that a head says
abbrev pub sibling_in : Head → Option ℕ
sibling_in head =
    if nat_eq (number head.next) most then None else Some (number head.next)

-- the head with another child, of a node whose label is there
abbrev pub with_child : Option ℕ → Packed → Head → Head
with_child child offset head = record head {
  word = head.word / 128 * 128 + (leaf_bit_of child + head.word % 64);
  link = link_of child offset;
}

-- the head with another sibling, of a node before this number
abbrev pub with_sibling : ℕ → Option ℕ → Head → Head
with_sibling next sibling head = record head {
  word = apart_bit_of next sibling + head.word % 32768;
  next = next_of sibling;
}
