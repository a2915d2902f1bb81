use Rattle.std.proofs.Common.{◌≡◌, List, [], ◌∷◌, Some, None, true, false, refl, ◌∙◌, arith}
use Rattle.patricia_keys.specs.ByteKind.{IsByteItem}
use Rattle.patricia_model.specs.Siblings.{Siblings, end, node}
use Rattle.patricia_wire.specs.Internal.Examples.{a_in_other_bits}
use Rattle.patricia_wire.specs.Internal.WrittenSiblings.{tree_records}
use Rattle.patricia_wire.specs.Records.{Record, EncodeAll, canonical_bytes_of}
use Rattle.patricia_wire.proofs.OneMeaning.{writing_spells}
use Rattle.patricia_wire.proofs.SiblingsTrees.{Nothing, tree_of}
use Rattle.patricia_wire.proofs.Spellings.{set, clear, one_list}
use Rattle.patricia_wire.proofs.TestedSiblings.{byte_room, byte_written, byte_writable}
use Rattle.patricia_wire.proofs.examples.other_bits.Goals as goal

abbrev siblings : Siblings Nothing
siblings = node (97 ∷ []) (Some tt) end end

abbrev records : List Record
records = tree_records None siblings

abbrev root : Record
root = record { level = 0; label = []; value = false; child = true; sibling = false }

abbrev a : Record
a = record { level = 1; label = 97 ∷ []; value = true; child = false; sibling = false }

spelled : EncodeAll 2 records a_in_other_bits
spelled = record {
  first = 200 ∷ 0 ∷ 0 ∷ 0 ∷ [];
  rest = 194 ∷ 1 ∷ 0 ∷ 1 ∷ 97 ∷ [];
  spelled = record {
    flags = 200;
    marks = record {
      in_a_byte = omega arith;
      value = clear 0 refl;
      child = set 8 (λ h. cc);
      sibling = clear 0 refl;
    };
    room = byte_room 2 root refl;
    is = refl;
  };
  others = record {
    first = 194 ∷ 1 ∷ 0 ∷ 1 ∷ 97 ∷ [];
    rest = [];
    spelled = record {
      flags = 194;
      marks = record {
        in_a_byte = omega arith;
        value = set 2 (λ h. cc);
        child = clear 0 refl;
        sibling = clear 0 refl;
      };
      room = byte_room 2 a refl;
      is = refl;
    };
    others = refl;
    joined = refl;
  };
  joined = refl;
}

pub returns-clause-meant : goal.returns-clause-meant
returns-clause-meant c = record { records = records; spelled = spelled; root = tree_of IsByteItem None siblings (byte_writable siblings refl); in_place = refl }

pub returns-clause-other : goal.returns-clause-other
returns-clause-other c S canon =
    let same = one_list 2 canon.records records a_in_other_bits (writing_spells IsByteItem 2 a_in_other_bits S canon) spelled in
    let clean : a_in_other_bits ≡ canonical_bytes_of 2 records = canon.is ∙ (λ i. canonical_bytes_of 2 (same i)) in
    cc

pub returns-clause-clean : goal.returns-clause-clean
returns-clause-clean c = byte_written 2 None siblings refl refl refl
