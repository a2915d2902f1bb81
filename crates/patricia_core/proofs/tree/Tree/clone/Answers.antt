use Rattle.std.proofs.Common.{◌≢◌, sym, ap, subst, ◌∙◌, rules}
use Rattle.std.specs.Prelude.{map as list_map}
use Rattle.std.specs.FinMap as map
use Rattle.patricia_model.specs.Clones.{ClonesAreSame}
use Rattle.patricia_nodes.specs.Internal.Plans.{siblings_of}
use Rattle.patricia_model.proofs.TreeLemmas.{entries_map, nothing_in}
use Rattle.patricia_edits.proofs.KeptLemmas.{kept_parts}
use Rattle.patricia_edits.proofs.RemoveLemmas.{on_err_from}
use Rattle.patricia_core.proofs.tree.Tree.clone.Goals as goal

pub copy_value-requires : goal.copy_value-requires
copy_value-requires g c =
    let is = ap map.entries (sym c.self.view_is) ∙ entries_map g.K.Bytes.item g.met.K.Bytes.lawful _ _ c.self.invariant.tree.canonical in
    rw c.as_ref.ensures.value
    (kept_parts g.V.Clone.is_clone c.self.inside.parts.value (siblings_of c.self.inside.parts.arena)
    (subst (λ es. ClonesAreSame g.V.Clone.is_clone (list_map (λ e. e.1) es)) is c.requires)).0

pub copy-requires-clause-cloned : goal.copy-requires-clause-cloned
copy-requires-clause-cloned g c =
    let is = ap map.entries (sym c.self.view_is) ∙ entries_map g.K.Bytes.item g.met.K.Bytes.lawful _ _ c.self.invariant.tree.canonical in
    (kept_parts g.V.Clone.is_clone c.self.inside.parts.value (siblings_of c.self.inside.parts.arena)
    (subst (λ es. ClonesAreSame g.V.Clone.is_clone (list_map (λ e. e.1) es)) is c.requires)).1

pub returns-in_err-value-clause-err_only_nonempty :
    goal.returns-in_err-value-clause-err_only_nonempty
returns-in_err-value-clause-err_only_nonempty g c =
    let some : map.len c.args.self.now ≢ 0 = λ none. c.in_err-value.ensures.nonempty
    (c.as_ref.ensures.value
    ∙ (nothing_in g.K.Bytes.item g.met.K.Bytes.lawful c.self.inside.parts.value
    (siblings_of c.self.inside.parts.arena) c.self.invariant.tree.canonical
    (ap map.len c.self.view_is ∙ none)).0) in
    on_err_from _ some

pub returns-in_err-copy-clause-err_only_nonempty : goal.returns-in_err-copy-clause-err_only_nonempty
returns-in_err-copy-clause-err_only_nonempty g c =
    let some : map.len c.args.self.now ≢ 0 = λ none. c.in_err-copy.ensures.nonempty
    (nothing_in g.K.Bytes.item g.met.K.Bytes.lawful c.self.inside.parts.value
    (siblings_of c.self.inside.parts.arena) c.self.invariant.tree.canonical
    (ap map.len c.self.view_is ∙ none)).1 in
    on_err_from _ some

pub returns-clause-same : goal.returns-clause-same
returns-clause-same g c = search rules
