use Rattle.std.specs.FinMap as map
use Rattle.patricia_tree.specs.Merges.{MergesEntry}
use Rattle.patricia_tree.proofs.FoldLemmas.{IsFolding}
use Rattle.patricia_tree.proofs.map.whole.merge_all.Given as goal

abbrev pub invariant-loop-entry : goal.invariant-loop-entry
invariant-loop-entry g l = record {
  callable : goal.F-IsAlwaysCallable g l.f;
  put : IsFolding (MergesEntry g.F.FnMut) (l.fn.f, l.fn.merger) (map.entries l.fn.other) (l.f, l.merger) l.rest;
}
