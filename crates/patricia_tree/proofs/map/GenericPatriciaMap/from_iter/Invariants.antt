use Rattle.std.proofs.Common.{◌≡◌}
use Rattle.std.specs.FinMap as map
use Rattle.patricia_tree.specs.Bulk.{insert_all, by_bytes}
use Rattle.patricia_tree.specs.Internal.Fillings.{filled}
use Rattle.patricia_tree.proofs.map.GenericPatriciaMap.from_iter.Given as goal

abbrev pub invariant-loop-key : goal.invariant-loop-key
invariant-loop-key g l = filled l.filling ≡ insert_all map.empty (by_bytes g.Q.BorrowedBytes.key l.yielded)
