use Rattle.std.proofs.Common.{◌≤◌, ◌-◌, length}
use Rattle.patricia_nodes.specs.Internal.Plans.{Plan}
use Rattle.patricia_nodes.specs.Internal.Growth.{AreTopSiblings}
use Rattle.patricia_edits.proofs.CopyLemmas.{Copying}
use Rattle.patricia_edits.proofs.copying.copy_siblings.Given as goal

-- what is copied, and what is left of the siblings
abbrev pub invariant-loop-id : goal.invariant-loop-id
invariant-loop-id g l = record {
  capacity : l.fn.to.capacity ≤ l.to.capacity;
  copying : (w : Plan g.row.V.Denot) → AreTopSiblings l.from.items l.fn.first w
      → Copying g.V.Clone.is_clone l.from.items l.fn.to.items w l.at l.to.items;
}

abbrev pub decreases-loop-id : goal.decreases-loop-id
decreases-loop-id g l = l.fn.to.capacity - length l.to.items
