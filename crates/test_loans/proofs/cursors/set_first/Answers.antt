use Rattle.std.proofs.Common.{rules, ◌≡◌, sym, ap, ◌∙◌}
use Rattle.patricia_tree.specs.Cursors.{stepped, last_value}
use Rattle.test_loans.proofs.FirstLemmas.{start, no_entry, same_map, put_first}
use Rattle.test_loans.proofs.cursors.set_first.Goals as goal

pub returns-in-Some-clause-put : goal.returns-in-Some-clause-put
returns-in-Some-clause-put g c found =
    let at = ap last_value (c.in_ok-advance.ensures.stepped ∙ ap stepped c.iter_mut-first.ensures.start) in
    put_first c.args.m.now _ _ _ (sym at ∙ sym c.in-Some.ensures.value) (search rules)

pub returns-in-None-clause-none : goal.returns-in-None-clause-none
returns-in-None-clause-none g c found =
    let at = ap last_value (c.in_ok-advance.ensures.stepped ∙ ap stepped c.iter_mut-first.ensures.start) in
    let kept : _ ≡ (stepped (start c.args.m.now)).map = search rules in
    (no_entry c.args.m.now (sym at ∙ sym c.in-None.ensures.value), kept ∙ same_map c.args.m.now)
