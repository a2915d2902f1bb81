use Rattle.std.proofs.Common.{Some}
use Rattle.patricia_nodes.specs.Internal.Plans.{plan_at, size}
use Rattle.patricia_edits.proofs.ComeLemmas.{Comes}
use Rattle.patricia_edits.proofs.EndLemmas.{AreLast}
use Rattle.patricia_edits.proofs.ends.find_last.Given as goal

abbrev pub invariant-loop-next : goal.invariant-loop-next
invariant-loop-next g l =
    Comes g.K.Bytes.item AreLast l.arena l.last.link_ref l.last.id l.path.items

abbrev pub decreases-loop-next : goal.decreases-loop-next
decreases-loop-next g l = size (plan_at l.arena.nodes.items (Some l.last.id))
