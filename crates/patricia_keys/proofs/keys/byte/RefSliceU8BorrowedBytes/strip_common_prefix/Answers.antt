use Rattle.std.proofs.Common.{arith}
use Rattle.std.proofs.lemmas.List.{take_rest}
use Rattle.patricia_keys.proofs.ByteLemmas.{byte_common}
use Rattle.patricia_keys.proofs.keys.byte.RefSliceU8BorrowedBytes.strip_common_prefix.Goals as goal

pub returns : goal.returns
returns c = record {
  count = c.shared_len.result;
  common = byte_common _ _ _ (λ i l. omega (arith, c.type_inv.self i)) c.shared_len.ensures;
  is = take_rest c.args.self.now c.shared_len.result;
}
