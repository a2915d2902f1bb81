use Rattle.patricia_keys.proofs.UnitLemmas.{even_rest}
use Rattle.patricia_keys.proofs.keys.units.UnitsBorrowedBytes.strip_n_prefix.Goals as goal

pub invariant_of-result : goal.invariant_of-result
invariant_of-result c = record {
  even = even_rest c.args.self.bytes.now c.args.n c.args.self.even c.requires.within c.requires.valid;
}
