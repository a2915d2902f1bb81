use Rattle.std.proofs.Common.{◌≡◌, ◌++◌, map}
use Rattle.std.specs.FinMap.{keys}
use Rattle.test_loans.proofs.listings.listed_keys.Given as goal

abbrev pub invariant-loop-key : goal.invariant-loop-key
invariant-loop-key g l = map g.K.Bytes.key l.list.items ++ l.key-iterator ≡ keys l.tree
