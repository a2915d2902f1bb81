use Rattle.std.proofs.Common.{List, ℕ, [], ◌∷◌, Some, None, inl, inr, refl, arith}
use Rattle.std.proofs.Math.Utf8.{encode}
use Rattle.patricia_keys.proofs.KeyLemmas.{IsValid-item}
use Rattle.patricia_keys.specs.TextKind.{IsTextItem, one_char}
use Rattle.patricia_keys.specs.Internal.TextLaw.{text_lawful}
use Rattle.patricia_model.specs.Siblings.{Siblings, end, node}
use Rattle.patricia_wire.specs.Internal.WrittenSiblings.{IsWritable}
use Rattle.patricia_wire.proofs.SiblingsTrees.{Nothing}
use Rattle.patricia_wire.proofs.TestedSiblings.{written, byte_written}
use Rattle.patricia_wire.proofs.examples.texts_and_bytes.Goals as goal

-- the three characters: a globe, a hamburger and a mountain
abbrev globe : List ℕ
globe = 240 ∷ 159 ∷ 140 ∷ 143 ∷ []

abbrev hamburger : List ℕ
hamburger = 240 ∷ 159 ∷ 141 ∷ 148 ∷ []

abbrev mountain : List ℕ
mountain = 240 ∷ 159 ∷ 151 ∷ 187 ∷ []

globe_item : IsTextItem globe
unfolding encode
globe_item = one_char 127759 refl refl

hamburger_item : IsTextItem hamburger
unfolding encode
hamburger_item = one_char 127828 refl refl

mountain_item : IsTextItem mountain
unfolding encode
mountain_item = one_char 128507 refl refl

abbrev siblings : Siblings Nothing
siblings = node globe None (node hamburger (Some tt) end (node mountain (Some tt) end end)) end

ok : IsWritable IsTextItem siblings
ok = record {
  valid = IsValid-item IsTextItem globe globe_item;
  nonempty = λ e. cc;
  fits = omega arith;
  marked = inr refl;
  rises = tt;
  child = record {
    valid = IsValid-item IsTextItem hamburger hamburger_item;
    nonempty = λ e. cc;
    fits = omega arith;
    marked = inl refl;
    rises = record {
      first = hamburger;
      second = mountain;
      first_item = hamburger_item;
      second_item = mountain_item;
      first_begins = ([], refl);
      second_begins = ([], refl);
      less = refl;
    };
    child = tt;
    sibling = record {
      valid = IsValid-item IsTextItem mountain mountain_item;
      nonempty = λ e. cc;
      fits = omega arith;
      marked = inl refl;
      rises = tt;
      child = tt;
      sibling = tt;
    };
  };
  sibling = tt;
}

pub returns-clause-texts : goal.returns-clause-texts
returns-clause-texts c = written IsTextItem text_lawful 2 None siblings ok refl refl

pub returns-clause-bytes : goal.returns-clause-bytes
returns-clause-bytes c = byte_written 2 None
    (node (240 ∷ 159 ∷ 140 ∷ 143 ∷ 240 ∷ 159 ∷ []) None
    (node (141 ∷ 148 ∷ []) (Some tt) end (node (151 ∷ 187 ∷ []) (Some tt) end end)) end) refl refl
    refl
