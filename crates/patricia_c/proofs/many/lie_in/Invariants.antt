use Rattle.std.proofs.Common.{length, ◌-◌, ◌≡◌, ◌≤◌, ◌+◌, take}
use Rattle.std.specs.List.{sum}
use Rattle.patricia_c.proofs.many.lie_in.Given as goal

-- what is left of the bytes behind the keys of the lengths so far
abbrev pub invariant-loop-i : goal.invariant-loop-i
invariant-loop-i l = (l.i ≤ length l.lens) × (sum (take l.i l.lens) + l.left ≡ l.bytes)

abbrev pub decreases-loop-i : goal.decreases-loop-i
decreases-loop-i l = length l.lens - l.i
