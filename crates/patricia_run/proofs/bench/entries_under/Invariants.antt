use Rattle.std.proofs.Common.{◌≡◌, ◌++◌}
use Rattle.std.specs.FinMap as map
use Rattle.patricia_tree.specs.Prefixes.{under}
use Rattle.patricia_tree.specs.Bulk.{by_bytes}
use Rattle.patricia_run.proofs.bench.entries_under.Given as goal

-- the entries so far and those that are left are those under the prefix
abbrev pub invariant-loop-entry : goal.invariant-loop-entry
invariant-loop-entry g l = by_bytes g.Q.Owned.Bytes.key l.listed.items ++ l.entry-iterator ≡ under (g.Q.BorrowedBytes.key l.fn.prefix) (map.entries l.entries)
