use Rattle.std.proofs.Common.{◌≡◌, ◌-◌, vec_len, vec_capacity}
use Rattle.patricia_store.proofs.OrderLemmas.{HeadsTo}
use Rattle.patricia_store.proofs.order.renumber.Given as goal

-- the heads so far have new links
abbrev pub invariant-loop-id : goal.invariant-loop-id
invariant-loop-id l = record {
  items : HeadsTo l.places l.fn.heads.items l.id l.heads.items;
  capacity : vec_capacity l.heads ≡ vec_capacity l.fn.heads;
}

abbrev pub decreases-loop-id : goal.decreases-loop-id
decreases-loop-id l = vec_len l.heads - l.id
