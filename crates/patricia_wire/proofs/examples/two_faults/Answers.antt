use Rattle.std.proofs.Common.{[], ◌∷◌, None, true, false, refl, arith}
use Rattle.patricia_keys.specs.ByteKind.{IsByteItem}
use Rattle.patricia_model.specs.Siblings.{end}
use Rattle.patricia_wire.specs.Records.{Record, Encodes}
use Rattle.patricia_wire.specs.Internal.Readings.{nothing, level, root_label}
use Rattle.patricia_wire.proofs.ReadingsFirst.{first_trailing}
use Rattle.patricia_wire.proofs.SiblingsTrees.{Nothing, tree_of}
use Rattle.patricia_wire.proofs.Spellings.{set, clear}
use Rattle.patricia_wire.proofs.TestedReadings.{the_root, no_tests, byte_tests, read_one}
use Rattle.patricia_wire.proofs.TestedReadings.{reads_clean, first_broken, first_below}
use Rattle.patricia_wire.proofs.TestedSiblings.{byte_room}
use Rattle.patricia_wire.proofs.examples.two_faults.Goals as goal

abbrev deep : Record
deep = record { level = 2; label = []; value = false; child = false; sibling = false }

abbrev named : Record
named = record { level = 0; label = 97 ∷ []; value = false; child = false; sibling = true }

abbrev empty : Record
empty = record { level = 0; label = []; value = false; child = false; sibling = false }

named_spelled : Encodes 2 named (32 ∷ 1 ∷ 0 ∷ 0 ∷ 97 ∷ [])
named_spelled = record {
  flags = 32;
  marks = record { in_a_byte = omega arith; value = clear 0 refl; child = clear 0 refl; sibling = set 32 (λ h. cc) };
  room = byte_room 2 named refl;
  is = refl;
}

pub returns-clause-level : goal.returns-clause-level
returns-clause-level c = first_below 0 deep [] level refl (λ same. cc) refl

pub returns-clause-label : goal.returns-clause-label
returns-clause-label c = first_broken IsByteItem byte_tests 2 _ 0 0 [] the_root [] 0 named
    (32 ∷ 1 ∷ 0 ∷ 0 ∷ 97 ∷ []) [] root_label nothing refl (reads_clean 2 [] _ refl) named_spelled
    (refl, λ none. cc) refl

pub returns-clause-trailing : goal.returns-clause-trailing
returns-clause-trailing c =
    first_trailing IsByteItem 1 2 _ (empty ∷ []) 4 (0 ∷ []) [] (read_one IsByteItem (no_tests IsByteItem) 1 1 [] the_root [] empty nothing refl refl)
    (reads_clean 2 (empty ∷ []) (0 ∷ []) refl) (tree_of IsByteItem {V = Nothing} None end tt) (λ none. cc)
