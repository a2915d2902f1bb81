use Rattle.std.proofs.Common.{◌≡◌, ◌++◌}
use Rattle.std.specs.FinMap as map
use Rattle.patricia_tree.specs.Bulk.{by_bytes}
use Rattle.patricia_run.proofs.bench.entries_of.Given as goal

-- the entries so far and those that are left are the entries
abbrev pub invariant-loop-entry : goal.invariant-loop-entry
invariant-loop-entry g l = by_bytes g.K.Bytes.key l.listed.items ++ l.entry-iterator ≡ map.entries l.entries
