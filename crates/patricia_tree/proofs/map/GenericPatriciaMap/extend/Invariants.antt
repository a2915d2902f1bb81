use Rattle.std.proofs.Common.{◌≡◌}
use Rattle.patricia_tree.specs.Bulk.{insert_all, by_bytes}
use Rattle.patricia_tree.proofs.map.GenericPatriciaMap.extend.Given as goal

abbrev pub invariant-loop-key : goal.invariant-loop-key
invariant-loop-key g l = l.self ≡ insert_all l.initial.self (by_bytes g.Q.BorrowedBytes.key l.yielded)
