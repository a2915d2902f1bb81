use Rattle.std.proofs.Common.{◌≡◌, ◌-◌, Bool, length}
use Rattle.std.proofs.Common.{map as list_map}
use Rattle.patricia_many.specs.Internal.Lookups.{AreLookups}
use Rattle.patricia_many.proofs.stages.read_heads.Given as goal

abbrev pub invariant-loop-i : goal.invariant-loop-i
invariant-loop-i g l =
    ((by_prefix : Bool)
    → AreLookups g.Q.Owned.Bytes.item l.arena by_prefix (list_map g.Q.BorrowedBytes.key l.keys) l.fn.lookups
    → AreLookups g.Q.Owned.Bytes.item l.arena by_prefix (list_map g.Q.BorrowedBytes.key l.keys) l.lookups)
    × (length l.lookups ≡ length l.fn.lookups)

abbrev pub decreases-loop-i : goal.decreases-loop-i
decreases-loop-i g l = length l.places - l.i
