use Rattle.std.proofs.Common.{◌≡◌, ◌-◌, length}
use Rattle.patricia_many.proofs.stages.read_keys.Given as goal

abbrev pub invariant-loop-k : goal.invariant-loop-k
invariant-loop-k g l = length l.lookups ≡ length l.fn.lookups

abbrev pub decreases-loop-k : goal.decreases-loop-k
decreases-loop-k g l = length l.keys - l.k
