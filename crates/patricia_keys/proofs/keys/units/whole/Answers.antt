use Rattle.std.proofs.Common.{arith}
use Rattle.patricia_keys.proofs.UnitLemmas.{even_valid}
use Rattle.patricia_keys.proofs.keys.units.whole.Goals as goal

pub returns-clause-valid : goal.returns-clause-valid
returns-clause-valid c = even_valid c.args.bytes.now (λ i l. omega (arith, c.type_inv.bytes i)) c.requires
