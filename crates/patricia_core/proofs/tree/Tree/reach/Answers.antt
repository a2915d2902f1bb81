use Rattle.std.proofs.Common.{sym, subst, ap, ◌∙◌}
use Rattle.std.specs.FinMap as map
use Rattle.patricia_model.specs.Prefixes.{IsReach}
use Rattle.patricia_model.proofs.TreeLemmas.{keys_map}
use Rattle.patricia_core.proofs.tree.Tree.reach.Goals as goal

pub returns : goal.returns
returns g c =
    subst (λ S. IsReach g.K.Bytes.item S (g.Q.BorrowedBytes.key c.args.key) c.reach.result)
    (sym (keys_map g.K.Bytes.item g.met.K.Bytes.lawful _ _ c.self.invariant.tree.canonical) ∙ ap map.keys c.self.view_is)
    (c.reach.ensures c.self.inside.parts.value)
