use Rattle.std.proofs.Common.{◌≡◌, ◌-◌, vec_len, vec_capacity}
use Rattle.patricia_store.proofs.PermuteLemmas.{Permuting}
use Rattle.patricia_store.proofs.order.permute.Given as goal

-- the heads and the bodies so far are where they belong
abbrev pub invariant-loop-i : goal.invariant-loop-i
invariant-loop-i g l = record {
  heads : Permuting l.fn.order.items l.fn.heads.items l.i l.order.items l.places.items l.heads.items;
  bodies : Permuting l.fn.order.items l.fn.bodies.items l.i l.order.items l.places.items l.bodies.items;
  heads_capacity : vec_capacity l.heads ≡ vec_capacity l.fn.heads;
  bodies_capacity : vec_capacity l.bodies ≡ vec_capacity l.fn.bodies;
}

abbrev pub decreases-loop-i : goal.decreases-loop-i
decreases-loop-i g l = vec_len l.heads - l.i
