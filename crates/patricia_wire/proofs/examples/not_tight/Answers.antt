use Rattle.std.proofs.Common.{[], ◌∷◌, Some, None, refl, subst, arith}
use Rattle.patricia_keys.specs.ByteKind.{IsByteItem, one_byte}
use Rattle.patricia_keys.specs.Internal.ByteLaw.{byte_lawful}
use Rattle.patricia_model.specs.Siblings.{Siblings, end, node}
use Rattle.patricia_wire.specs.Internal.Examples.{ab, ab_in_two}
use Rattle.patricia_wire.specs.Records.{EncodeAll}
use Rattle.patricia_wire.specs.Writings.{IsTight}
use Rattle.patricia_wire.specs.Internal.WrittenSiblings.{tree_records, IsWritable}
use Rattle.patricia_wire.proofs.OneMeaning.{writing_spells}
use Rattle.patricia_wire.proofs.SiblingsTrees.{Nothing, tree_of}
use Rattle.patricia_wire.proofs.Spellings.{one_list, clean_spell_all}
use Rattle.patricia_wire.proofs.TestedSiblings.{byte_written, byte_writable, tested_room}
use Rattle.patricia_wire.proofs.examples.not_tight.Goals as goal

-- a without value, and b below it
abbrev siblings : Siblings Nothing
siblings = node (97 ∷ []) None (node (98 ∷ []) (Some tt) end end) end

ok : IsWritable IsByteItem siblings
ok = byte_writable siblings refl

spelled : EncodeAll 2 (tree_records None siblings) ab_in_two
spelled = clean_spell_all 2 (tree_records None siblings) (tested_room IsByteItem byte_lawful 2 None siblings ok refl)

pub returns-clause-meant : goal.returns-clause-meant
returns-clause-meant c = record { records = tree_records None siblings; spelled = spelled; root = tree_of IsByteItem None siblings ok; in_place = refl }

pub returns-clause-loose : goal.returns-clause-loose
returns-clause-loose c S canon =
    let same = one_list 2 canon.records (tree_records None siblings) ab_in_two (writing_spells IsByteItem 2 ab_in_two S canon) spelled in
    let tight = subst (IsTight IsByteItem) same canon.tight in
    let over = tight.0 refl refl refl (98 ∷ []) (one_byte (omega arith)) ([], refl) in
    omega arith

pub returns-clause-tight : goal.returns-clause-tight
returns-clause-tight c = byte_written 2 None (node ab (Some tt) end end) refl refl refl
