use Rattle.std.proofs.Common.{◌≡◌, ◌≤◌, ◌-◌, length}
use Rattle.patricia_nodes.specs.Internal.Plans.{Plan}
use Rattle.patricia_nodes.specs.Internal.Growth.{AreTopSiblings}
use Rattle.patricia_nodes.specs.Internal.Writes.{IsWithin}
use Rattle.patricia_nodes.proofs.GrowthLemmas.{Moving}
use Rattle.patricia_nodes.proofs.arena.NodeArena.relocate_siblings.Given as goal

-- what is moved, and what is left of the siblings
abbrev pub invariant-loop-id : goal.invariant-loop-id
invariant-loop-id g l = record {
  capacity : l.to.capacity ≡ l.fn.to.capacity;
  free : IsWithin l.self.free (length l.self.nodes.items);
  kept : l.fn.self.nodes.room ≤ l.self.nodes.room;
  moving : (w : Plan g.row.V.Denot) → AreTopSiblings l.fn.self.nodes.items l.fn.first w
      → Moving l.fn.self l.fn.to w l.self l.at l.to;
}

abbrev pub decreases-loop-id : goal.decreases-loop-id
decreases-loop-id g l = l.to.capacity - length l.to.items
