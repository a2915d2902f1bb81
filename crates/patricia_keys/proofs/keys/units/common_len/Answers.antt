use Rattle.std.proofs.Common.{arith}
use Rattle.patricia_keys.proofs.UnitLemmas.{unit_common}
use Rattle.patricia_keys.proofs.keys.units.common_len.Goals as goal

pub returns : goal.returns
returns c =
    unit_common c.args.key.now c.args.bytes.now _ (λ i l. omega (arith, c.type_inv.key i))
    c.strip_common_prefix_and_len-shared.ensures.common
