use Rattle.patricia_keys.proofs.UnitLemmas.{valid_even}
use Rattle.patricia_keys.proofs.keys.units.UnitsBorrowedBytes.keep_n_prefix.Goals as goal

pub invariant_of-result : goal.invariant_of-result
invariant_of-result c = record { even = valid_even _ c.requires.valid }
