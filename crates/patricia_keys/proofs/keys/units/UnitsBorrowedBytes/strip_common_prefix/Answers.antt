use Rattle.patricia_keys.proofs.UnitLemmas.{even_rest}
use Rattle.patricia_keys.proofs.keys.units.UnitsBorrowedBytes.strip_common_prefix.Goals as goal

pub invariant_of-result : goal.invariant_of-result
invariant_of-result c = record {
  even = even_rest c.args.self.bytes.now c.common_len.result c.args.self.even c.common_len.ensures.within c.common_len.ensures.valid;
}
