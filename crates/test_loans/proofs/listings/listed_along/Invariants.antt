use Rattle.std.proofs.Common.{◌≡◌, ◌++◌, map}
use Rattle.std.specs.FinMap.{entries}
use Rattle.patricia_tree.specs.Prefixes.{along}
use Rattle.test_loans.proofs.listings.listed_along.Given as goal

abbrev pub invariant-loop-item : goal.invariant-loop-item
invariant-loop-item g l = map (λ e. (g.Q.BorrowedBytes.key e.0, e.1)) l.list.items ++ l.item-iterator ≡ along (g.Q.BorrowedBytes.key l.fn.key) (entries l.tree)
