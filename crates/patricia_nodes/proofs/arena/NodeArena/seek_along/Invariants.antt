use Rattle.std.proofs.Common.{ℕ}
use Rattle.patricia_nodes.specs.Internal.Plans.{size, plan_at}
use Rattle.patricia_nodes.proofs.SeekLemmas.{Walks}
use Rattle.patricia_nodes.proofs.arena.NodeArena.seek_along.Given as goal

abbrev pub invariant-loop-first : goal.invariant-loop-first
invariant-loop-first g l = (n : ℕ) × Walks g.Q.Owned.Bytes.item l.self (g.Q.BorrowedBytes.key l.fn.key) l.link_ref l.at (g.Q.BorrowedBytes.key l.rest) l.trail.items 0 n

abbrev pub decreases-loop-first : goal.decreases-loop-first
decreases-loop-first g l = size (plan_at l.self.nodes.items l.at)
