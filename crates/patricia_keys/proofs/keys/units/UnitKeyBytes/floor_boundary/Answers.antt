use Rattle.std.proofs.Common.{arith}
use Rattle.patricia_keys.proofs.UnitLemmas.{unit_floor}
use Rattle.patricia_keys.proofs.keys.units.UnitKeyBytes.floor_boundary.Goals as goal

pub returns : goal.returns
returns c = unit_floor c.args.bytes.now (λ i l. omega (arith, c.type_inv.bytes i))
