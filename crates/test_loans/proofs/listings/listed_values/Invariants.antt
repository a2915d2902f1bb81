use Rattle.std.proofs.Common.{◌≡◌, ◌++◌}
use Rattle.std.specs.FinMap.{values}
use Rattle.test_loans.proofs.listings.listed_values.Given as goal

abbrev pub invariant-loop-value : goal.invariant-loop-value
invariant-loop-value g l = l.list.items ++ l.value-iterator ≡ values l.tree
