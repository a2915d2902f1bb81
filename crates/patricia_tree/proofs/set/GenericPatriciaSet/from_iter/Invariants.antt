use Rattle.std.proofs.Common.{◌≡◌}
use Rattle.std.specs.FinMap as map
use Rattle.patricia_tree.specs.Bulk.{insert_all, by_bytes}
use Rattle.patricia_tree.specs.Internal.Fillings.{filled}
use Rattle.patricia_tree.proofs.SetLemmas.{in_pairs}
use Rattle.patricia_tree.proofs.set.GenericPatriciaSet.from_iter.Given as goal

abbrev pub invariant-loop-element : goal.invariant-loop-element
invariant-loop-element g l = filled l.filling ≡ insert_all map.empty (by_bytes g.Q.BorrowedBytes.key (in_pairs l.yielded))
