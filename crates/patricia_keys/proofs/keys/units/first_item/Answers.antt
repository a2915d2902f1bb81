use Rattle.std.proofs.Common.{◌<◌, length, arith}
use Rattle.std.proofs.lemmas.Bool.Decides.{nat_tests}
use Rattle.patricia_keys.proofs.UnitLemmas.{unit_first}
use Rattle.patricia_keys.proofs.keys.units.first_item.Goals as goal

pub returns-else-is_empty : goal.returns-else-is_empty
returns-else-is_empty c =
    let some : 0 < length c.args.bytes.now = let test = c.if-is_empty.ensures in grind (arith, nat_tests) in
    unit_first c.args.bytes.now (λ i l. omega (arith, c.type_inv.bytes i)) c.requires some
