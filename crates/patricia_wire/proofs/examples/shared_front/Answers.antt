use Rattle.std.proofs.Common.{◌≡◌, List, [], ◌∷◌, Some, None, inl, inr, length, refl, ap, subst}
use Rattle.std.proofs.Common.{arith}
use Rattle.patricia_keys.specs.Keys.{AreSingle}
use Rattle.patricia_keys.specs.ByteKind.{IsByteItem, one_byte}
use Rattle.patricia_keys.specs.Internal.ByteLaw.{byte_lawful}
use Rattle.patricia_model.specs.Points.{IsPoint}
use Rattle.patricia_model.specs.Siblings.{Siblings, end, node}
use Rattle.patricia_model.specs.Internal.ThreeKeys.{three_keys}
use Rattle.patricia_wire.specs.Counts.{AreShort, IsCount}
use Rattle.patricia_wire.specs.Forests.{Root}
use Rattle.patricia_wire.specs.Internal.WrittenSiblings.{records_of, tree_records}
use Rattle.patricia_wire.specs.Records.{Record}
use Rattle.patricia_wire.specs.Writings.{IsTight}
use Rattle.patricia_wire.proofs.CountLemmas.{records_are_points}
use Rattle.patricia_wire.proofs.FrontLemmas.{labels_are_fronts}
use Rattle.patricia_wire.proofs.SiblingsTrees.{Nothing, tree_of}
use Rattle.patricia_wire.proofs.TestedSiblings.{byte_writable, byte_written, stay_apart}
use Rattle.patricia_wire.proofs.examples.shared_front.Goals as goal

-- ba with r and z below it, and foo
abbrev siblings : Siblings Nothing
siblings = node (98 ∷ 97 ∷ []) None (node (114 ∷ []) (Some tt) end (node (122 ∷ []) (Some tt) end end)) (node (102 ∷ 111 ∷ 111 ∷ []) (Some tt) end end)

abbrev records : List Record
records = tree_records None siblings

root : Root IsByteItem records three_keys
root = tree_of IsByteItem None siblings (byte_writable siblings refl)

tight : IsTight IsByteItem records
tight = stay_apart IsByteItem byte_lawful (records_of 1 siblings) refl

single : AreSingle IsByteItem
single i (one_byte h) = refl

short : AreShort three_keys
short k (inl e) = omega (arith, ap length e)
short k (inr (inl e)) = omega (arith, ap length e)
short k (inr (inr (inl e))) = omega (arith, ap length e)
short k (inr (inr (inr h))) = absurd h

pub returns-clause-narrow : goal.returns-clause-narrow
returns-clause-narrow c = byte_written 2 None siblings refl refl refl

pub returns-clause-wide : goal.returns-clause-wide
returns-clause-wide c = byte_written 4 None siblings refl refl refl

pub returns-clause-fronts : goal.returns-clause-fronts
returns-clause-fronts c = labels_are_fronts IsByteItem byte_lawful records three_keys root tight single

pub returns-clause-points : goal.returns-clause-points
returns-clause-points c =
    let (n, count, size) = records_are_points IsByteItem byte_lawful records three_keys root tight short in
    let four : n ≡ 4 = omega (arith, size) in
    subst (IsCount (IsPoint IsByteItem three_keys)) four count
