use Rattle.std.proofs.Common.{sym, ◌∙◌, refl}
use Rattle.patricia_model.proofs.TreeLemmas.{get_empty, remove_empty}
use Rattle.patricia_core.proofs.tree.merging.Merger.remove.Goals as goal

pub returns-then-is_empty-clause-old : goal.returns-then-is_empty-clause-old
returns-then-is_empty-clause-old g c = rw (← c.self.view_is, c.if-is_empty.ensures.0 refl)
    (c.take.ensures.value ∙ sym
    (get_empty g.K.Bytes.item g.met.K.Bytes.lawful _ _ c.self.invariant.stored.tree.canonical))

pub returns-then-is_empty-clause-ok : goal.returns-then-is_empty-clause-ok
returns-then-is_empty-clause-ok g c =
    rw (← c.self.view_is, c.if-is_empty.ensures.0 refl, c.take.ensures.after)
    (remove_empty g.K.Bytes.item g.met.K.Bytes.lawful _ _ c.self.invariant.stored.tree.canonical)
