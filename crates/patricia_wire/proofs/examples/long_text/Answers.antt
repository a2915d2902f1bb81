use Rattle.std.proofs.Common.{◌<◌, ℕ, suc, zero, List, [], ◌∷◌, ◌++◌, Some, None, inl, inr, length}
use Rattle.std.proofs.Common.{refl, ap, arith}
use Rattle.std.specs.Prelude.{replicate}
use Rattle.std.proofs.Math.Utf8.{encode}
use Rattle.patricia_keys.specs.Keys.{IsValid, Begins}
use Rattle.patricia_keys.specs.TextKind.{IsTextItem, one_char}
use Rattle.patricia_keys.specs.Internal.TextLaw.{text_lawful}
use Rattle.patricia_keys.proofs.KeyLemmas.{IsValid-nil, IsValid-item, IsValid-append, begins_same}
use Rattle.patricia_model.specs.Siblings.{Siblings, end, node}
use Rattle.patricia_model.proofs.MeetingLemmas.{before_by_first_byte}
use Rattle.patricia_wire.specs.Internal.WrittenSiblings.{tree_records, IsWritable}
use Rattle.patricia_wire.proofs.SiblingsTrees.{Nothing, tree_of}
use Rattle.patricia_wire.proofs.TestedSiblings.{tested_room, byte_written}
use Rattle.patricia_wire.proofs.examples.long_text.Goals as goal

-- the characters: two letters and two kana
a_item : IsTextItem (97 ∷ [])
unfolding encode
a_item = one_char 97 refl refl

b_item : IsTextItem (98 ∷ [])
unfolding encode
b_item = one_char 98 refl refl

abbrev first_kana : List ℕ
first_kana = 227 ∷ 129 ∷ 130 ∷ []

abbrev second_kana : List ℕ
second_kana = 227 ∷ 129 ∷ 174 ∷ []

first_item : IsTextItem first_kana
unfolding encode
first_item = one_char 12354 refl refl

second_item : IsTextItem second_kana
unfolding encode
second_item = one_char 12398 refl refl

letters_valid : (n : ℕ) → IsValid IsTextItem (replicate n 97)
letters_valid zero = IsValid-nil IsTextItem
letters_valid (suc n) = IsValid-append IsTextItem (97 ∷ []) (replicate n 97) (IsValid-item IsTextItem (97 ∷ []) a_item) (letters_valid n)

b_valid : IsValid IsTextItem (98 ∷ [])
b_valid = IsValid-item IsTextItem (98 ∷ []) b_item

abbrev siblings : Siblings Nothing
siblings = node (replicate 254 97) None (node (first_kana ++ second_kana) (Some tt) end end) (node (98 ∷ []) (Some tt) end end)

ok : IsWritable IsTextItem siblings
ok = record {
  valid = letters_valid 254;
  nonempty = λ e. cc;
  fits = omega arith;
  marked = inr refl;
  rises = before_by_first_byte IsTextItem text_lawful (replicate 254 97) (98 ∷ []) (letters_valid 254) b_valid (λ e. cc) (λ e. cc) (omega arith);
  child = record {
    valid = IsValid-append IsTextItem first_kana second_kana (IsValid-item IsTextItem first_kana first_item) (IsValid-item IsTextItem second_kana second_item);
    nonempty = λ e. cc;
    fits = omega arith;
    marked = inl refl;
    rises = tt;
    child = tt;
    sibling = tt;
  };
  sibling = record { valid = b_valid; nonempty = λ e. cc; fits = omega arith; marked = inl refl; rises = tt; child = tt; sibling = tt };
}

-- the first kana has no room behind the letters
full : (i : List ℕ) → IsTextItem i → Begins i (first_kana ++ second_kana)
    → 255 < length (replicate 254 97 ++ i)
full i is begun =
    let three = ap length (begins_same IsTextItem text_lawful i first_kana (first_kana ++ second_kana) is first_item begun (second_kana, refl)) in
    omega arith

pub returns-clause-texts : goal.returns-clause-texts
returns-clause-texts c = record {
  records = tree_records None siblings;
  root = tree_of IsTextItem None siblings ok;
  tight = (λ none child lone. full, (λ none. absurd (cc), tt));
  room = tested_room IsTextItem text_lawful 2 None siblings ok refl;
  is = refl;
}

pub returns-clause-bytes : goal.returns-clause-bytes
returns-clause-bytes c =
    byte_written 2 None
    (node (replicate 254 97 ++ 227 ∷ []) None
    (node (129 ∷ 130 ∷ 227 ∷ 129 ∷ 174 ∷ []) (Some tt) end end)
    (node (98 ∷ []) (Some tt) end end)) refl refl refl
