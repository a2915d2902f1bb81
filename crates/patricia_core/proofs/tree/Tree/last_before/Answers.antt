use Rattle.std.proofs.Common.{◌≡◌, ◌≢◌, ◌++◌, [], None, sym, ap, subst, ◌∙◌}
use Rattle.std.specs.Prelude.{IfOk, OnErr}
use Rattle.std.specs.List.{last_or}
use Rattle.std.specs.FinMap as map
use Rattle.std.specs.Option.{option_map}
use Rattle.patricia_model.specs.Ranges.{before}
use Rattle.patricia_model.specs.Siblings.{own, entries}
use Rattle.patricia_nodes.specs.Internal.Plans.{siblings_of}
use Rattle.patricia_model.proofs.TreeLemmas.{entries_map}
use Rattle.patricia_core.proofs.tree.Tree.last_before.Goals as goal

pub returns-clause-entry : goal.returns-clause-entry
returns-clause-entry g c =
    let equal = ap (λ v. own v ++ entries (siblings_of c.self.inside.parts.arena)) c.as_ref.ensures.value
    ∙ sym (entries_map g.K.Bytes.item g.met.K.Bytes.lawful _ _ c.self.invariant.tree.canonical)
    ∙ ap map.entries c.self.view_is in
    subst (λ es. IfOk c.last_before.result (λ entry. option_map (λ e. (g.K.Bytes.key e.0, e.1.now)) entry ≡ last_or None (before (g.Q.BorrowedBytes.key c.args.key) es)))
    equal c.last_before.ensures.entry

pub returns-clause-err_only_before : goal.returns-clause-err_only_before
returns-clause-err_only_before g c =
    let equal = ap (λ v. own v ++ entries (siblings_of c.self.inside.parts.arena)) c.as_ref.ensures.value
    ∙ sym (entries_map g.K.Bytes.item g.met.K.Bytes.lawful _ _ c.self.invariant.tree.canonical)
    ∙ ap map.entries c.self.view_is in
    subst (λ es. OnErr c.last_before.result (before (g.Q.BorrowedBytes.key c.args.key) es ≢ [])) equal c.last_before.ensures.err_only_before
