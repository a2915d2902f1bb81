use Rattle.std.proofs.Common.{◌-◌, ℕ, List, vec_len}
use Rattle.patricia_store.specs.Internal.Permutations.{ArePutOut}
use Rattle.patricia_store.proofs.InterleaveLemmas.{MovingTogether}
use Rattle.patricia_store.proofs.interleave.move_together.Given as goal

-- those so far are together
abbrev pub invariant-loop-i : goal.invariant-loop-i
invariant-loop-i g l = (start : List ℕ) (old : List g.row.T.Denot)
    → ArePutOut l.n start old l.fn.order.items l.fn.items
    → MovingTogether l.n start old l.i l.to l.order.items l.items

abbrev pub decreases-loop-i : goal.decreases-loop-i
decreases-loop-i g l = vec_len l.order - l.i
