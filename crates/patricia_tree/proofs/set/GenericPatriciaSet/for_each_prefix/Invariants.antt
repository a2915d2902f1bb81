use Rattle.std.proofs.Common.{length}
use Rattle.std.specs.FinMap as map
use Rattle.patricia_tree.specs.Prefixes.{under}
use Rattle.patricia_tree.specs.Visits.{IsCalledAtElement}
use Rattle.patricia_tree.proofs.FoldLemmas.{IsFolding}
use Rattle.patricia_tree.proofs.set.GenericPatriciaSet.for_each_prefix.Given as goal

abbrev pub invariant-loop-cursor : goal.invariant-loop-cursor
invariant-loop-cursor g l = record {
  callable : goal.F-IsAlwaysCallable g l.f;
  visiting : IsFolding (IsCalledAtElement g.F.FnMut) l.fn.f (under (g.Q.BorrowedBytes.key l.fn.prefix) (map.entries l.fn.self)) l.f l.cursor.left;
}

abbrev pub decreases-loop-cursor : goal.decreases-loop-cursor
decreases-loop-cursor g l = length l.cursor.left
