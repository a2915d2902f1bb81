use Rattle.std.proofs.Common.{◌∙◌}
use Rattle.patricia_core.proofs.ManyLemmas.{contains_all}
use Rattle.patricia_core.proofs.tree.Tree.contains_many.Goals as goal

pub returns : goal.returns
returns g c = rw (← c.self.view_is)
    (c.contains_many.ensures
    ∙ contains_all g.K.Bytes.item g.met.K.Bytes.lawful g.Q.BorrowedBytes.key _ _ c.as_ref.ensures.value _ c.self.invariant.tree.canonical c.args.keys.now)
