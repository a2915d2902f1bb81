use Rattle.std.proofs.Common.{length}
use Rattle.patricia_nodes.proofs.TrailLemmas.{IsCutFrom}
use Rattle.patricia_edits.proofs.removal.cut_before.Given as goal

abbrev pub invariant-loop-end : goal.invariant-loop-end
invariant-loop-end l = IsCutFrom l.fn.trail.items l.trail.items

abbrev pub decreases-loop-end : goal.decreases-loop-end
decreases-loop-end l = length l.trail.items
