use Rattle.patricia_keys.proofs.ByteLemmas.{byte_valid}
use Rattle.patricia_keys.proofs.keys.byte.VecU8Bytes.as_bytes.Goals as goal

pub returns-clause-valid : goal.returns-clause-valid
returns-clause-valid c = byte_valid _ (λ i l. c.type_inv.self i 0 l)
