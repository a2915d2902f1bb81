use Rattle.std.proofs.Common.{Some}
use Rattle.patricia_nodes.specs.Internal.Plans.{plan_at, size}
use Rattle.patricia_edits.proofs.ComeLemmas.{Comes}
use Rattle.patricia_edits.proofs.EndLemmas.{AreFirst}
use Rattle.patricia_edits.proofs.ends.find_first.Given as goal

abbrev pub invariant-loop-child : goal.invariant-loop-child
invariant-loop-child g l =
    Comes g.K.Bytes.item AreFirst l.arena l.at.link_ref l.at.id l.path.items

abbrev pub decreases-loop-child : goal.decreases-loop-child
decreases-loop-child g l = size (plan_at l.arena.nodes.items (Some l.at.id))
