use Rattle.std.proofs.Common.{◌≡◌, ℕ, ◌-◌, List, vec_len}
use Rattle.std.specs.Vec.{vec_capacity}
use Rattle.patricia_nodes.specs.Internal.Order.{AreSiblings}
use Rattle.patricia_nodes.proofs.OrderLemmas.{SiblingsLeft}
use Rattle.patricia_nodes.proofs.arena.NodeArena.list_siblings.Given as goal

-- what is listed, and what is left of the siblings
abbrev pub invariant-loop-id : goal.invariant-loop-id
invariant-loop-id g l = record {
  capacity : vec_capacity l.order ≡ vec_capacity l.fn.order;
  left : (ids : List ℕ) → AreSiblings l.self.nodes.items l.fn.first ids
      → SiblingsLeft l.self.nodes.items l.at ids l.fn.order.items l.order.items;
}

abbrev pub decreases-loop-id : goal.decreases-loop-id
decreases-loop-id g l = vec_capacity l.order - vec_len l.order
