use Rattle.std.proofs.Common.{◌≡◌, ◌++◌, map}
use Rattle.std.specs.FinMap.{entries}
use Rattle.test_loans.proofs.listings.taken.Given as goal

abbrev pub invariant-loop-item : goal.invariant-loop-item
invariant-loop-item g l = map (λ e. (g.K.Bytes.key e.0, e.1)) l.list.items ++ l.item-iterator ≡ entries l.fn.tree
