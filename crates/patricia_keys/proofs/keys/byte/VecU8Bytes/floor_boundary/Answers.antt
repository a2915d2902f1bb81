use Rattle.std.proofs.Common.{arith}
use Rattle.patricia_keys.proofs.ByteLemmas.{byte_floor}
use Rattle.patricia_keys.proofs.keys.byte.VecU8Bytes.floor_boundary.Goals as goal

pub returns : goal.returns
returns c = byte_floor _ (λ i l. omega (arith, c.type_inv.bytes i))
