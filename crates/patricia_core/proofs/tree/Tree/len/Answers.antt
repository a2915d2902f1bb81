use Rattle.std.proofs.Common.{sym}
use Rattle.patricia_model.proofs.TreeLemmas.{len_some, len_none}
use Rattle.patricia_core.proofs.tree.Tree.len.Goals as goal

pub returns-then-is_some : goal.returns-then-is_some
returns-then-is_some g c = rw (← c.self.view_is, c.self.invariant.tree.counted)
    (len_some g.K.Bytes.item g.met.K.Bytes.lawful _ _ c.self.invariant.tree.canonical
    (sym c.if-is_some.ensures))

pub returns-else-is_some : goal.returns-else-is_some
returns-else-is_some g c = rw (← c.self.view_is, c.self.invariant.tree.counted)
    (len_none g.K.Bytes.item g.met.K.Bytes.lawful _ _ c.self.invariant.tree.canonical
    (sym c.if-is_some.ensures))
