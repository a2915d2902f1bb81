use Rattle.std.proofs.Common.{Some}
use Rattle.patricia_model.specs.Internal.WalkStates.{steps_in}
use Rattle.patricia_nodes.specs.Internal.Plans.{siblings_at}
use Rattle.patricia_walks.proofs.LastLemmas.{LastPast}
use Rattle.patricia_walks.proofs.last.last_sibling.Given as goal

abbrev pub invariant-loop-next : goal.invariant-loop-next
invariant-loop-next g l = LastPast g.K.Bytes.item l.arena.nodes.items l.fn.first l.id

abbrev pub decreases-loop-next : goal.decreases-loop-next
decreases-loop-next g l = steps_in (siblings_at l.arena.nodes.items (Some l.id))
