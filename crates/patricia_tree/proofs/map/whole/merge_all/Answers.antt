use Rattle.std.proofs.Common.{subst}
use Rattle.std.specs.FinMap as map
use Rattle.patricia_tree.specs.Merges.{MergesEntry}
use Rattle.patricia_tree.proofs.AfterLemmas.{at_error}
use Rattle.patricia_tree.proofs.FoldLemmas.{folding_on, folding_ends}
use Rattle.patricia_tree.proofs.MergeLemmas.{merging_stops}
use Rattle.patricia_tree.proofs.map.whole.merge_all.Goals as goal

pub returns-in_err-merge-clause-stopped : goal.returns-in_err-merge-clause-stopped
returns-in_err-merge-clause-stopped g c = at_error _ _
    (merging_stops g.F.FnMut c.args.f c.loop-entry.f c.args.merger.now c.loop-entry.merger c.merge.new.self
    (map.entries c.args.other) c.loop-entry.rest c.next.new.self (g.K.Bytes.key c.in_ok-key.key, c.in_ok-key.value)
    (rw c.in_ok-key.was at c.in-Some.ensures.steps) c.in_err-merge.ensures.unchanged c.loop-entry.invariant.put)

pub loop-entry-preserved : goal.loop-entry-preserved
loop-entry-preserved g c = record {
  callable = c.in_ok-merge.ensures.callable;
  put = folding_on (MergesEntry g.F.FnMut) (c.args.f, c.args.merger.now) (map.entries c.args.other)
      (c.loop-entry.f, c.loop-entry.merger) (c.merge.new.f, c.merge.new.self) c.loop-entry.rest c.next.new.self
      (g.K.Bytes.key c.in_ok-key.key, c.in_ok-key.value) (rw c.in_ok-key.was at c.in-Some.ensures.steps)
      (subst (λ k. MergesEntry g.F.FnMut (c.loop-entry.f, c.loop-entry.merger) (k, c.in_ok-key.value)
      (c.merge.new.f, c.merge.new.self)) c.of.ensures c.in_ok-merge.ensures.merged) c.loop-entry.invariant.put;
}

pub returns-clause-merged : goal.returns-clause-merged
returns-clause-merged g c = (
  c.loop-entry.f,
  folding_ends (MergesEntry g.F.FnMut) (c.args.f, c.args.merger.now) (map.entries c.args.other)
      (c.loop-entry.f, c.loop-entry.merger) c.loop-entry.rest c.in_default.ensures.steps.0 c.loop-entry.invariant.put,
)
