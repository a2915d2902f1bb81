use Rattle.std.proofs.Common.{◌++◌, sym, ap, ◌∙◌}
use Rattle.std.proofs.Common.{map as list_map}
use Rattle.std.specs.FinMap as map
use Rattle.std.specs.Option.{option_map}
use Rattle.patricia_model.specs.Prefixes.{longest}
use Rattle.patricia_model.specs.Siblings.{own, entries}
use Rattle.patricia_nodes.specs.Internal.Plans.{siblings_of}
use Rattle.patricia_model.proofs.TreeLemmas.{entries_map}
use Rattle.patricia_core.proofs.tree.Tree.longest_keys.Goals as goal

pub returns : goal.returns
returns g c =
    c.longest_keys.ensures
    ∙ ap (λ es. list_map
    (λ key. option_map (λ e. e.0) (longest (g.Q.BorrowedBytes.key key) es)) c.args.keys.now)
    (ap (λ v. own v ++ entries (siblings_of c.self.inside.parts.arena)) c.as_ref.ensures.value
    ∙ sym (entries_map g.K.Bytes.item g.met.K.Bytes.lawful _ _ c.self.invariant.tree.canonical)
    ∙ ap map.entries c.self.view_is)
