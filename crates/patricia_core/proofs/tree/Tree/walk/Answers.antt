use Rattle.std.proofs.Common.{◌++◌, sym, ap, ◌∙◌}
use Rattle.std.specs.FinMap as map
use Rattle.patricia_model.specs.Siblings.{own, entries}
use Rattle.patricia_nodes.specs.Internal.Plans.{siblings_of}
use Rattle.patricia_model.proofs.TreeLemmas.{entries_map}
use Rattle.patricia_core.proofs.tree.Tree.walk.Goals as goal

pub returns : goal.returns
returns g c =
    c.new.ensures ∙ ap (λ v. own v ++ entries (siblings_of c.self.inside.parts.arena)) c.as_ref.ensures.value
    ∙ sym (entries_map g.K.Bytes.item g.met.K.Bytes.lawful _ _ c.self.invariant.tree.canonical) ∙ ap map.entries c.self.view_is
