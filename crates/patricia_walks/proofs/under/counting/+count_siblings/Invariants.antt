use Rattle.patricia_nodes.specs.Internal.Plans.{size, plan_at}
use Rattle.patricia_walks.proofs.DepthLemmas.{Counting}
use Rattle.patricia_walks.proofs.under.counting.+count_siblings.Given as goal

abbrev pub decreases-count_siblings : goal.decreases-count_siblings
decreases-count_siblings g l = l.depth

-- what is counted, and what is left of the siblings
abbrev pub invariant-loop-id : goal.invariant-loop-id
invariant-loop-id g l = Counting l.arena.nodes.items l.fn.first l.at l.count l.depth

abbrev pub decreases-loop-id : goal.decreases-loop-id
decreases-loop-id g l = size (plan_at l.arena.nodes.items l.at)
