use Rattle.std.proofs.Common.{◌≡◌, ◌++◌}
use Rattle.std.specs.FinMap as map
use Rattle.patricia_tree.specs.Prefixes.{under}
use Rattle.patricia_c.specs.EntriesLeft.{pairs_of}
use Rattle.patricia_c.proofs.iteration.entries_under.Given as goal

-- the entries so far and those that are left are those under the prefix
abbrev pub invariant-loop-entry : goal.invariant-loop-entry
invariant-loop-entry l = pairs_of l.left.items ++ l.entry-iterator ≡ under l.fn.prefix (map.entries l.stored.map)
