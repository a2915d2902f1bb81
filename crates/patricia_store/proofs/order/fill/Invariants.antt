use Rattle.std.proofs.Common.{◌≡◌, ◌-◌, ◌≤◌, vec_len, vec_capacity}
use Rattle.patricia_store.specs.Internal.Permutations.{StartsWith}
use Rattle.patricia_store.proofs.order.fill.Given as goal

-- the heads and bodies are as they were, and as many stand behind them
abbrev pub invariant-loop-offset : goal.invariant-loop-offset
invariant-loop-offset g l = record {
  heads : StartsWith l.heads.items l.fn.heads.items;
  bodies : StartsWith l.bodies.items l.fn.bodies.items;
  same : vec_len l.bodies ≡ vec_len l.heads;
  more : vec_len l.fn.heads ≤ vec_len l.heads;
  few : vec_len l.heads ≤ l.n;
  heads_capacity : vec_capacity l.heads ≡ vec_capacity l.fn.heads;
  bodies_capacity : vec_capacity l.bodies ≡ vec_capacity l.fn.bodies;
}

abbrev pub decreases-loop-offset : goal.decreases-loop-offset
decreases-loop-offset g l = l.n - vec_len l.heads
