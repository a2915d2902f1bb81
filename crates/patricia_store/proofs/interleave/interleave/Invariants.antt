use Rattle.std.proofs.Common.{◌≤◌, vec_len}
use Rattle.patricia_store.proofs.InterleaveLemmas.{PuttingBack}
use Rattle.patricia_store.proofs.interleave.interleave.Given as goal

-- the items from here on are where they belong
abbrev pub invariant-loop-i : goal.invariant-loop-i
invariant-loop-i g l = record {
  back : PuttingBack l.fn.order.items l.fn.items l.i l.order.items l.items;
  within : l.i ≤ vec_len l.order;
}

abbrev pub decreases-loop-i : goal.decreases-loop-i
decreases-loop-i g l = l.i
