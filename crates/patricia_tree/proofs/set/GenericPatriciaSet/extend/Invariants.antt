use Rattle.std.proofs.Common.{◌≡◌}
use Rattle.patricia_tree.specs.Bulk.{insert_all, by_bytes}
use Rattle.patricia_tree.proofs.SetLemmas.{in_pairs}
use Rattle.patricia_tree.proofs.set.GenericPatriciaSet.extend.Given as goal

abbrev pub invariant-loop-element : goal.invariant-loop-element
invariant-loop-element g l = l.self ≡ insert_all l.initial.self (by_bytes g.Q.BorrowedBytes.key (in_pairs l.yielded))
