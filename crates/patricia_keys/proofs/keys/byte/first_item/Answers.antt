use Rattle.std.proofs.Common.{arith}
use Rattle.patricia_keys.proofs.ByteLemmas.{byte_first, byte_first_none}
use Rattle.patricia_keys.proofs.keys.byte.first_item.Goals as goal

pub returns-then-is_empty : goal.returns-then-is_empty
returns-then-is_empty c = byte_first_none _ c.if-is_empty.ensures

pub returns-else-is_empty : goal.returns-else-is_empty
returns-else-is_empty c = byte_first _ (λ i l. omega (arith, c.type_inv.bytes i)) c.if-is_empty.ensures
