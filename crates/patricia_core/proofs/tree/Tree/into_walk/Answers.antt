use Rattle.std.proofs.Common.{sym, ap, ◌∙◌}
use Rattle.std.specs.FinMap as map
use Rattle.patricia_model.proofs.TreeLemmas.{entries_map}
use Rattle.patricia_core.proofs.tree.Tree.into_walk.Goals as goal

pub returns : goal.returns
returns g c = c.new.ensures ∙ sym (entries_map g.K.Bytes.item g.met.K.Bytes.lawful _ _ c.self.invariant.tree.canonical) ∙ ap map.entries c.self.view_is
