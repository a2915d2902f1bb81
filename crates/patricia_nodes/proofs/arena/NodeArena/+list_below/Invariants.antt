use Rattle.std.proofs.Common.{◌≡◌, ◌≤◌, ◌-◌, List, take, drop, vec_len}
use Rattle.std.specs.Vec.{vec_capacity}
use Rattle.patricia_nodes.specs.Internal.Plans.{Plan}
use Rattle.patricia_nodes.specs.Internal.Order.{Waits}
use Rattle.patricia_nodes.proofs.OrderLemmas.{Listing}
use Rattle.patricia_nodes.proofs.arena.NodeArena.+list_below.Given as goal

abbrev pub decreases-list_below : goal.decreases-list_below
decreases-list_below g l = l.depth

-- of the nodes up to the end, those before this one have what is below them in the list
abbrev pub invariant-loop-i : goal.invariant-loop-i
invariant-loop-i g l = record {
  capacity : vec_capacity l.order ≡ vec_capacity l.fn.order;
  within : l.end ≤ vec_len l.order;
  level : l.depth ≡ 0 → l.end ≡ vec_len l.order;
  listing : (cs : List (Plan g.row.V.Denot))
      → Waits l.self.nodes.items (drop l.start l.fn.order.items) cs
      → Listing l.self.nodes.items cs l.fn.order.items l.order.items
      (drop l.i (take l.end l.order.items));
}

abbrev pub decreases-loop-i : goal.decreases-loop-i
decreases-loop-i g l = vec_capacity l.order - l.i
