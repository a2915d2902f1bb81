use Rattle.patricia_nodes.specs.Internal.Plans.{size, plan_at}
use Rattle.patricia_walks.proofs.LongestLemmas.{Measuring}
use Rattle.patricia_walks.proofs.longest.+measure_siblings.Given as goal

abbrev pub decreases-measure_siblings : goal.decreases-measure_siblings
decreases-measure_siblings g l = l.depth

abbrev pub invariant-loop-id : goal.invariant-loop-id
invariant-loop-id g l = Measuring l.nodes.items l.fn.first l.at l.longest

abbrev pub decreases-loop-id : goal.decreases-loop-id
decreases-loop-id g l = size (plan_at l.nodes.items l.at)
