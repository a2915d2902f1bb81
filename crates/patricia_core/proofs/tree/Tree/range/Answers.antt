use Rattle.std.proofs.Common.{◌++◌, sym, ap, ◌∙◌}
use Rattle.std.specs.FinMap as map
use Rattle.std.specs.Option.{option_map}
use Rattle.patricia_model.specs.Cursors.{before_entries}
use Rattle.patricia_model.specs.Ranges.{from}
use Rattle.patricia_walks.specs.Internal.Bounds.{within}
use Rattle.patricia_model.specs.Siblings.{own, entries}
use Rattle.patricia_nodes.specs.Internal.Plans.{siblings_of}
use Rattle.patricia_model.proofs.TreeLemmas.{entries_map}
use Rattle.patricia_core.proofs.tree.Tree.range.Goals as goal

pub returns : goal.returns
returns g c =
    let bound = option_map g.Q.BorrowedBytes.key c.args.bound in
    let key = g.Q.BorrowedBytes.key c.args.key in
    c.new.ensures
    ∙ ap (λ v. before_entries (within bound (from key (own v ++ entries (siblings_of c.self.inside.parts.arena))))) c.as_ref.ensures.value
    ∙ ap (λ es. before_entries (within bound (from key es)))
    (sym (entries_map g.K.Bytes.item g.met.K.Bytes.lawful _ _ c.self.invariant.tree.canonical)
    ∙ ap map.entries c.self.view_is)
