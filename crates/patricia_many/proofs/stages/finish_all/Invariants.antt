use Rattle.std.proofs.Common.{◌≡◌, ◌≤◌, ◌-◌, length}
use Rattle.std.proofs.Common.{map as list_map}
use Rattle.patricia_many.specs.Internal.Lookups.{AreEndedTo, AreLookups}
use Rattle.patricia_many.proofs.stages.finish_all.Given as goal

abbrev pub invariant-loop-left : goal.invariant-loop-left
invariant-loop-left g l =
    AreLookups g.Q.Owned.Bytes.item l.arena l.by_prefix (list_map g.Q.BorrowedBytes.key l.keys) l.lookups
    × (length l.lookups ≡ length l.fn.lookups)
    × (length l.places ≡ 32) × (length l.waiting ≡ 32) × (l.left ≤ 32)

abbrev pub decreases-loop-left : goal.decreases-loop-left
decreases-loop-left g l = 64 - l.rounds

abbrev pub invariant-loop-k : goal.invariant-loop-k
invariant-loop-k g l =
    AreLookups g.Q.Owned.Bytes.item l.arena l.by_prefix (list_map g.Q.BorrowedBytes.key l.keys) l.lookups
    × (length l.lookups ≡ length l.fn.lookups)
    × AreEndedTo l.k l.lookups

abbrev pub decreases-loop-k : goal.decreases-loop-k
decreases-loop-k g l = length l.keys - l.k
