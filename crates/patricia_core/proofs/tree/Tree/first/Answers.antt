use Rattle.patricia_core.proofs.StoreLemmas.{entries_of_parts}
use Rattle.patricia_core.proofs.tree.Tree.first.Goals as goal

pub returns-clause-entry : goal.returns-clause-entry
returns-clause-entry g c =
    rw (← entries_of_parts g.K.Bytes.item g.met.K.Bytes.lawful
    _ _ _ _ c.self.invariant.tree.canonical c.as_ref.ensures.value c.self.view_is)
    c.first.ensures.entry

pub returns-clause-err_only_nonempty : goal.returns-clause-err_only_nonempty
returns-clause-err_only_nonempty g c =
    rw (← entries_of_parts g.K.Bytes.item g.met.K.Bytes.lawful
    _ _ _ _ c.self.invariant.tree.canonical c.as_ref.ensures.value c.self.view_is)
    c.first.ensures.err_only_nonempty
