use Rattle.std.proofs.Common.{◌-◌, vec_len}
use Rattle.patricia_store.proofs.InterleaveLemmas.{PuttingOut}
use Rattle.patricia_store.proofs.interleave.put_out.Given as goal

-- the strays so far are out
abbrev pub invariant-loop-i : goal.invariant-loop-i
invariant-loop-i g l = PuttingOut l.n l.settled l.fn.order.items l.fn.items l.i l.next l.to l.order.items l.items

abbrev pub decreases-loop-i : goal.decreases-loop-i
decreases-loop-i g l = vec_len l.order - l.i
