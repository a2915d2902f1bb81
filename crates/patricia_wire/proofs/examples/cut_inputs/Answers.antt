use Rattle.std.proofs.Common.{[], ◌∷◌, inl, inr, refl, arith}
use Rattle.patricia_keys.specs.ByteKind.{IsByteItem}
use Rattle.patricia_wire.proofs.ReadingsFirst.{first_cut_short}
use Rattle.patricia_wire.proofs.TestedReadings.{opened, opened_read, first_child, reads_clean}
use Rattle.patricia_wire.proofs.examples.cut_inputs.Goals as goal

pub returns-clause-at_once : goal.returns-clause-at_once
returns-clause-at_once c = first_cut_short IsByteItem 0 2 _ (opened ∷ []) first_child [] 4 []
    (opened_read IsByteItem 0) (reads_clean 2 (opened ∷ []) [] refl) (inl (omega arith))

pub returns-clause-in_label : goal.returns-clause-in_label
returns-clause-in_label c = first_cut_short IsByteItem 1 2 _ (opened ∷ []) first_child [] 4
    (3 ∷ 2 ∷ 0 ∷ 1 ∷ 97 ∷ []) (opened_read IsByteItem 1)
    (reads_clean 2 (opened ∷ []) (3 ∷ 2 ∷ 0 ∷ 1 ∷ 97 ∷ []) refl) (inr (omega arith))
