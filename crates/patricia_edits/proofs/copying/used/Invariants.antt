use Rattle.patricia_nodes.specs.Internal.Plans.{plan_at}
use Rattle.patricia_edits.proofs.CountLemmas.{Counting}
use Rattle.patricia_edits.proofs.copying.used.Given as goal

-- the free nodes from this one on are still counted as used
abbrev pub invariant-loop-id : goal.invariant-loop-id
invariant-loop-id g l = Counting l.arena.nodes.items (plan_at l.arena.nodes.items l.arena.root) l.at l.used

abbrev pub decreases-loop-id : goal.decreases-loop-id
decreases-loop-id g l = l.used
