use Rattle.std.proofs.Common.{◌-◌}
use Rattle.patricia_many.specs.Internal.Lookups.{IsLookup}
use Rattle.patricia_many.proofs.lookup.Lookup.pass_top.Given as goal

abbrev pub invariant-loop-rows : goal.invariant-loop-rows
invariant-loop-rows g l = IsLookup g.Q.Owned.Bytes.item l.arena l.by_prefix (g.Q.BorrowedBytes.key l.key) l.self

abbrev pub decreases-loop-rows : goal.decreases-loop-rows
decreases-loop-rows g l = 2 - l.rows
