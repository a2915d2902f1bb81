use Rattle.std.proofs.Common.{◌≡◌, ◌≤◌, ◌-◌, length}
use Rattle.std.proofs.Common.{map as list_map}
use Rattle.patricia_many.specs.Internal.Lookups.{AreLookups}
use Rattle.patricia_many.proofs.stages.go_past_labels.Given as goal

abbrev pub invariant-loop-i : goal.invariant-loop-i
invariant-loop-i g l =
    AreLookups g.Q.Owned.Bytes.item l.arena l.by_prefix (list_map g.Q.BorrowedBytes.key l.keys) l.lookups
    × (length l.lookups ≡ length l.fn.lookups)
    × (length l.places ≡ length l.fn.places) × (l.count ≤ l.i) × (l.i ≤ length l.waiting)

abbrev pub decreases-loop-i : goal.decreases-loop-i
decreases-loop-i g l = length l.waiting - l.i
