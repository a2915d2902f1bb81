use Rattle.std.proofs.Common.{length, ◌-◌}
use Rattle.patricia_nodes.proofs.PermuteLemmas.{Placed}
use Rattle.patricia_nodes.proofs.arena.order.inverse.Given as goal

-- the places of the numbers so far are known
abbrev pub invariant-loop-i : goal.invariant-loop-i
invariant-loop-i l = Placed l.order l.places.items l.i

abbrev pub decreases-loop-i : goal.decreases-loop-i
decreases-loop-i l = length l.order - l.i
