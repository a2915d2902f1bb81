use Rattle.std.proofs.Common.{length}
use Rattle.patricia_tree.proofs.ChoiceLemmas.{IsRetaining}
use Rattle.patricia_tree.proofs.RetainLemmas.{keys_of_entries}
use Rattle.patricia_tree.proofs.map.retain.retain_all.Given as goal

abbrev pub invariant-loop-pruner : goal.invariant-loop-pruner
invariant-loop-pruner g l = record {
  callable : goal.F-IsAlwaysCallable g l.f;
  retaining : IsRetaining g.F.FnMut l.fn.f l.initial.pruner.map (keys_of_entries l.pruner.left) l.f l.pruner.map;
}

abbrev pub decreases-loop-pruner : goal.decreases-loop-pruner
decreases-loop-pruner g l = length l.pruner.left
