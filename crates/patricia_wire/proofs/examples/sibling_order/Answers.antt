use Rattle.std.proofs.Common.{◌≡◌, arith, refl, sym, ◌∙◌, [], ◌∷◌, true, false, Some}
use Rattle.std.specs.declared.cmp.Ordering.TheVariants.{Less, Greater}
use Rattle.patricia_keys.specs.Keys.{ComparesFirst, key_cmp}
use Rattle.patricia_keys.specs.ByteKind.{IsByteItem, one_byte}
use Rattle.patricia_keys.specs.Internal.ByteLaw.{byte_lawful}
use Rattle.patricia_keys.proofs.KeyLemmas.{begins_same}
use Rattle.patricia_model.proofs.GetLemmas.{compared_less}
use Rattle.patricia_wire.specs.Records.{Record}
use Rattle.patricia_wire.specs.Internal.Readings.{Rule, Due, IsRead}
use Rattle.patricia_wire.proofs.TestedReadings.{opened, opened_read, first_child, byte_tests}
use Rattle.patricia_wire.proofs.TestedReadings.{read_one, first_of_bytes}
use Rattle.patricia_wire.proofs.examples.sibling_order.Goals as goal

abbrev b : Record
b = record { level = 1; label = 98 ∷ []; value = true; child = false; sibling = true }

abbrev a : Record
a = record { level = 1; label = 97 ∷ []; value = true; child = false; sibling = false }

abbrev behind_b : Due
behind_b = record { level = 1; after = Some (98 ∷ []) }

read : IsRead IsByteItem 2 (opened ∷ b ∷ []) (behind_b ∷ [])
read = read_one IsByteItem byte_tests 2 2 (opened ∷ []) first_child [] b (opened_read IsByteItem 2) refl refl

not_before : ComparesFirst IsByteItem (98 ∷ []) (97 ∷ []) Less → ⊥
not_before compared =
    let x = compared_less IsByteItem (98 ∷ []) (97 ∷ []) (λ none. cc) (λ none. cc) compared in
    let first = begins_same IsByteItem byte_lawful x.first (98 ∷ []) (98 ∷ []) x.first_item (one_byte (omega arith)) x.first_begins ([], refl) in
    let second = begins_same IsByteItem byte_lawful x.second (97 ∷ []) (97 ∷ []) x.second_item (one_byte (omega arith)) x.second_begins ([], refl) in
    let greater : key_cmp (98 ∷ []) (97 ∷ []) ≡ Greater = refl in
    let less : key_cmp (98 ∷ []) (97 ∷ []) ≡ Less = (λ i. key_cmp (sym first i) (sym second i)) ∙ x.less in
    cc

pub returns : goal.returns
returns c = first_of_bytes 2 2 1 (opened ∷ b ∷ []) behind_b [] a [] Rule.sibling_order read refl refl refl (98 ∷ [], refl, not_before) refl
