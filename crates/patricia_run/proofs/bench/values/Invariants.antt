use Rattle.std.proofs.Common.{◌≡◌, ◌++◌}
use Rattle.std.specs.FinMap as map
use Rattle.patricia_run.proofs.bench.values.Given as goal

-- the values so far and those that are left are the values of the map
abbrev pub invariant-loop-value : goal.invariant-loop-value
invariant-loop-value g l = l.values.items ++ l.value-iterator ≡ map.values l.entries
