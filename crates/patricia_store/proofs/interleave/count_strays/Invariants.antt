use Rattle.std.proofs.Common.{◌≡◌, ◌+◌, ◌-◌, ◌≤◌, length, drop}
use Rattle.patricia_store.specs.Internal.Permutations.{strays}
use Rattle.patricia_store.proofs.interleave.count_strays.Given as goal

-- those so far are counted
abbrev pub invariant-loop-i : goal.invariant-loop-i
invariant-loop-i l = record {
  counted : l.count + strays l.settled l.next (drop l.i l.order) ≡ strays l.settled 0 l.order;
  few : l.count ≤ l.i;
}

abbrev pub decreases-loop-i : goal.decreases-loop-i
decreases-loop-i l = length l.order - l.i
