use Rattle.std.proofs.Common.{[], ◌∷◌, Some, None, true, false, refl, sym, arith}
use Rattle.patricia_keys.specs.Keys.{IsValid}
use Rattle.patricia_keys.specs.TextKind.{IsTextItem}
use Rattle.patricia_keys.proofs.TextLemmas.{first_tells, text_first}
use Rattle.patricia_model.specs.Siblings.{end, node}
use Rattle.patricia_wire.specs.Records.{Record}
use Rattle.patricia_wire.specs.Internal.Readings.{invalid_label}
use Rattle.patricia_wire.proofs.Spellings.{clean_spells}
use Rattle.patricia_wire.proofs.TestedReadings.{opened, opened_read, first_child, no_tests}
use Rattle.patricia_wire.proofs.TestedReadings.{reads_clean, first_broken}
use Rattle.patricia_wire.proofs.TestedSiblings.{byte_room, byte_written}
use Rattle.patricia_wire.proofs.examples.cut_character.Goals as goal

abbrev half : Record
half = record { level = 1; label = 240 ∷ 159 ∷ []; value = true; child = false; sibling = false }

-- a character that begins with the byte 240 has four bytes
not_text : IsValid IsTextItem (240 ∷ 159 ∷ []) → ⊥
not_text valid =
    let four = text_first (240 ∷ 159 ∷ []) 4 valid (omega arith)
    (λ c scalar same.
    (let tells = first_tells c scalar in sym (tells.four (omega (arith, same))))) in
    omega (arith, four.0)

pub returns-clause-texts : goal.returns-clause-texts
returns-clause-texts c =
    first_broken IsTextItem (no_tests IsTextItem) 2 _ 1 1 (opened ∷ []) first_child [] 4 half
    (3 ∷ 2 ∷ 0 ∷ 1 ∷ 240 ∷ 159 ∷ []) [] invalid_label (opened_read IsTextItem 1) refl
    (reads_clean 2 (opened ∷ []) (3 ∷ 2 ∷ 0 ∷ 1 ∷ 240 ∷ 159 ∷ []) refl) (clean_spells 2 half (byte_room 2 half refl)) not_text refl

pub returns-clause-bytes : goal.returns-clause-bytes
returns-clause-bytes c = byte_written 2 None (node (240 ∷ 159 ∷ []) (Some tt) end end) refl refl refl
