use Rattle.std.proofs.Common.{◌≡◌, ◌++◌}
use Rattle.std.specs.FinMap as map
use Rattle.patricia_tree.specs.Prefixes.{along}
use Rattle.patricia_tree.specs.Bulk.{by_bytes}
use Rattle.patricia_run.proofs.bench.entries_along.Given as goal

-- the entries so far and those that are left are the common prefixes of the key
abbrev pub invariant-loop-prefix : goal.invariant-loop-prefix
invariant-loop-prefix g l = by_bytes g.Q.Owned.Bytes.key l.listed.items ++ l.prefix-iterator ≡ along (g.Q.BorrowedBytes.key l.fn.key) (map.entries l.entries)
