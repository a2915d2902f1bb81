use Rattle.std.proofs.Common.{inr, sym, ap, ◌∙◌}
use Rattle.std.specs.FinMap as map
use Rattle.patricia_tree.specs.Prefixes.{outside}
use Rattle.prefixes_core.proofs.ResultLemmas.{on_err_from}
use Rattle.prefixes_core.proofs.SubtreeLemmas.{all_elsewhere, dotted, elsewhere_is}
use Rattle.prefixes_core.proofs.SubtreeLemmas.{entries-remove}
use Rattle.prefixes_core.proofs.dotted.drop_subtree.Goals as goal

pub returns-clause-ok : goal.returns-clause-ok
returns-clause-ok g c =
    let name = c.args.name.now in
    let entries = map.entries c.args.names.now in
    c.in_ok-split_by_prefix.ensures.left
    ∙ ap (λ d. outside d (map.entries c.remove.new.self)) (c.as_str.ensures.value
    ∙ c.in_ok-dotted.ensures)
    ∙ ap (λ m. outside (dotted name) (map.entries m)) c.in_ok-remove.ensures.ok
    ∙ ap (outside (dotted name)) (entries-remove name c.args.names.now) ∙ elsewhere_is name entries

pub returns-then-not-begins_some-clause-ok : goal.returns-then-not-begins_some-clause-ok
returns-then-not-begins_some-clause-ok g c =
    sym (all_elsewhere c.args.name.now (map.entries c.args.names.now)
    (c.begins_some.ensures.none c.if-not-begins_some.true))

pub returns-in_err-split_by_prefix-clause-err : goal.returns-in_err-split_by_prefix-clause-err
returns-in_err-split_by_prefix-clause-err g c =
    on_err_from c.from_residual-in_err-split_by_prefix.result
    (inr (c.in_err-split_by_prefix.ensures.unchanged ∙ c.in_ok-remove.ensures.ok))
