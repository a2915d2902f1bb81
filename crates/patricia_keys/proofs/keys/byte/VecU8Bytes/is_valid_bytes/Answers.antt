use Rattle.std.proofs.Common.{arith, refl}
use Rattle.patricia_keys.proofs.ByteLemmas.{byte_valid}
use Rattle.patricia_keys.proofs.keys.byte.VecU8Bytes.is_valid_bytes.Goals as goal

pub returns : goal.returns
returns c = (λ _. byte_valid _ (λ i l. omega (arith, c.type_inv._bytes i)), λ _. refl)
