use Rattle.std.proofs.Common.{arith}
use Rattle.patricia_keys.proofs.ByteLemmas.{byte_valid}
use Rattle.patricia_keys.proofs.keys.byte.whole.Goals as goal

pub returns-clause-valid : goal.returns-clause-valid
returns-clause-valid c = byte_valid _ (λ i l. omega (arith, c.type_inv.bytes i))
