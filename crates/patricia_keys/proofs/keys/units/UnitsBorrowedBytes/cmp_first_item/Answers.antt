use Rattle.patricia_keys.proofs.UnitLemmas.{valid_even}
use Rattle.patricia_keys.proofs.keys.units.UnitsBorrowedBytes.cmp_first_item.Goals as goal

pub first_item-requires-2 : goal.first_item-requires-2
first_item-requires-2 c = valid_even c.args.bytes.now c.requires
