use Rattle.std.proofs.Common.{◌≡◌, ◌-◌, length}
use Rattle.std.proofs.Common.{map as list_map}
use Rattle.patricia_many.specs.Internal.Lookups.{IsLookup}
use Rattle.patricia_many.proofs.StageLemmas.{AreStarted}
use Rattle.patricia_many.proofs.stages.start_all.Given as goal

abbrev pub invariant-loop-k : goal.invariant-loop-k
invariant-loop-k g l =
    AreStarted (IsLookup g.Q.Owned.Bytes.item l.arena l.by_prefix) l.k (list_map g.Q.BorrowedBytes.key l.keys) l.lookups
    × (length l.lookups ≡ length l.fn.lookups)

abbrev pub decreases-loop-k : goal.decreases-loop-k
decreases-loop-k g l = length l.keys - l.k
