use Rattle.patricia_edits.proofs.MeasureLemmas.{Measuring, left}
use Rattle.patricia_edits.proofs.splitting.measure.Given as goal

abbrev pub invariant-loop-id : goal.invariant-loop-id
invariant-loop-id g l = Measuring l.arena.nodes.items l.fn.first l.at l.waiting.items l.size.nodes l.size.values l.size.bytes

abbrev pub decreases-loop-id : goal.decreases-loop-id
decreases-loop-id g l = left l.arena.nodes.items l.at l.waiting.items
