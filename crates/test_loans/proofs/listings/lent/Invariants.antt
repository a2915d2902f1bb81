use Rattle.std.proofs.Common.{◌≡◌, ◌++◌, map, length}
use Rattle.std.specs.FinMap.{entries}
use Rattle.test_loans.proofs.listings.lent.Given as goal

-- what is listed and what is left are the entries
abbrev pub invariant-entries : goal.invariant-entries
invariant-entries g l = map (λ e. (e.0.items, e.1)) l.list.items ++ l.cursor.left ≡ entries l.fn.tree

abbrev pub decreases-entries : goal.decreases-entries
decreases-entries g l = length l.cursor.left
