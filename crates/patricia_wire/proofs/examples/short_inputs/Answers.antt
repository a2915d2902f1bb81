use Rattle.std.proofs.Common.{ℕ, Bool, true, false, [], ◌∷◌, None, inl, refl, arith}
use Rattle.patricia_keys.specs.ByteKind.{IsByteItem}
use Rattle.patricia_wire.specs.Records.{Record, Encodes}
use Rattle.patricia_wire.specs.Forests.{Root}
use Rattle.patricia_wire.specs.Internal.Readings.{IsRead, nothing, level, root_label, root_sibling}
use Rattle.patricia_wire.specs.Internal.Readings.{too_few_values}
use Rattle.patricia_model.specs.Siblings.{end}
use Rattle.patricia_wire.proofs.ReadingsFirst.{first_cut_short, first_trailing, first_too_many}
use Rattle.patricia_wire.proofs.SiblingsTrees.{Nothing, tree_of}
use Rattle.patricia_wire.proofs.Spellings.{set, clear, clean_spell_all}
use Rattle.patricia_wire.proofs.TestedReadings.{the_root, no_tests, byte_tests, read_one}
use Rattle.patricia_wire.proofs.TestedReadings.{reads_clean, first_broken, first_of_bytes}
use Rattle.patricia_wire.proofs.TestedSiblings.{byte_room, byte_rooms}
use Rattle.patricia_wire.proofs.examples.short_inputs.Goals as goal

-- a record of level n with these marks and no label
abbrev bare : ℕ → Bool → Record
bare n v = record { level = n; label = []; value = v; child = false; sibling = false }

abbrev labelled : Record
labelled = record { level = 0; label = 97 ∷ []; value = true; child = false; sibling = false }

abbrev followed : Record
followed = record { level = 0; label = []; value = false; child = false; sibling = true }

labelled_spelled : Encodes 2 labelled (2 ∷ 1 ∷ 0 ∷ 0 ∷ 97 ∷ [])
labelled_spelled = record {
  flags = 2;
  marks = record { in_a_byte = omega arith; value = set 2 (λ h. cc); child = clear 0 refl; sibling = clear 0 refl };
  room = byte_room 2 labelled refl;
  is = refl;
}

followed_spelled : Encodes 2 followed (32 ∷ 0 ∷ 0 ∷ 0 ∷ [])
followed_spelled = record {
  flags = 32;
  marks = record { in_a_byte = omega arith; value = clear 0 refl; child = clear 0 refl; sibling = set 32 (λ h. cc) };
  room = byte_room 2 followed refl;
  is = refl;
}

empty_tree : Root IsByteItem (bare 0 false ∷ []) []
empty_tree = tree_of IsByteItem {V = Nothing} None end tt

empty_read : (n : ℕ) → IsRead IsByteItem n (bare 0 false ∷ []) []
empty_read n = read_one IsByteItem (no_tests IsByteItem) n n [] the_root [] (bare 0 false) nothing (omega arith) refl

pub returns-clause-empty : goal.returns-clause-empty
returns-clause-empty c = first_cut_short IsByteItem 0 2 [] [] the_root [] 0 [] nothing (reads_clean 2 [] [] refl) (inl (omega arith))

pub returns-clause-level : goal.returns-clause-level
returns-clause-level c = first_of_bytes 2 0 0 [] the_root [] (bare 1 false) [] level nothing refl refl refl (λ same. cc) refl

pub returns-clause-label : goal.returns-clause-label
returns-clause-label c = first_broken IsByteItem byte_tests 2 _ 1 1 [] the_root [] 0 labelled
    (2 ∷ 1 ∷ 0 ∷ 0 ∷ 97 ∷ []) [] root_label nothing refl (reads_clean 2 [] _ refl) labelled_spelled
    (refl, λ none. cc) refl

pub returns-clause-sibling : goal.returns-clause-sibling
returns-clause-sibling c = first_broken IsByteItem byte_tests 2 _ 0 0 [] the_root [] 0 followed
    (32 ∷ 0 ∷ 0 ∷ 0 ∷ []) [] root_sibling nothing refl (reads_clean 2 [] _ refl) followed_spelled
    (refl, refl) refl

pub returns-clause-few : goal.returns-clause-few
returns-clause-few c = first_of_bytes 2 0 0 [] the_root [] (bare 0 true) [] too_few_values nothing refl refl refl (refl, refl) refl

pub returns-clause-trailing : goal.returns-clause-trailing
returns-clause-trailing c = first_trailing IsByteItem 0 2 _ (bare 0 false ∷ []) 4 (0 ∷ []) []
    (empty_read 0) (reads_clean 2 (bare 0 false ∷ []) (0 ∷ []) refl) empty_tree (λ none. cc)

pub returns-clause-many : goal.returns-clause-many
returns-clause-many c = first_too_many IsByteItem 1 2 _ (bare 0 false ∷ []) [] (empty_read 1)
    (clean_spell_all 2 (bare 0 false ∷ []) (byte_rooms 2 (bare 0 false ∷ []) refl)) empty_tree
    (omega arith)
