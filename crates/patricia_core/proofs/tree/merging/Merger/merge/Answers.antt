use Rattle.std.proofs.Common.{refl}
use Rattle.patricia_core.proofs.MergeLemmas.{merges_empty}
use Rattle.patricia_core.proofs.tree.merging.Merger.merge.Goals as goal

pub returns-then-is_empty-clause-merged : goal.returns-then-is_empty-clause-merged
returns-then-is_empty-clause-merged g c =
    rw (← c.self.view_is, c.if-is_empty.ensures.0 refl)
    (merges_empty g.F.FnMut g.K.Bytes.item g.met.K.Bytes.lawful _ _ _ _ _ c.args.value
    c.self.invariant.stored.tree.canonical c.merge_value.ensures.merged)
