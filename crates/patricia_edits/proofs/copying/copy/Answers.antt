use Rattle.std.proofs.Common.{sym, ◌∙◌}
use Rattle.patricia_model.proofs.WalkLemmas.{on_err}
use Rattle.patricia_nodes.proofs.AloneLemmas.{some_not_none}
use Rattle.patricia_nodes.proofs.PlanLemmas.{not_some}
use Rattle.patricia_edits.proofs.WholeLemmas.{none_first, end_first}
use Rattle.patricia_edits.proofs.copying.copy.Goals as goal

pub returns-then-is_none-clause-siblings : goal.returns-then-is_none-clause-siblings
returns-then-is_none-clause-siblings g c =
    let none = sym c.get.ensures ∙ not_some c.get.result (sym c.if-is_none.ensures) in
    c.new.ensures.siblings ∙ sym (end_first c.args.arena.now none)

pub returns-in-None-clause-nonempty : goal.returns-in-None-clause-nonempty
returns-in-None-clause-nonempty g c =
    on_err c.copy_in_place.result
    (λ e. some_not_none c.get.result c.if-is_none.ensures (c.get.ensures ∙ none_first c.args.arena.now c.requires.whole e))

pub returns-in-Some-clause-nonempty : goal.returns-in-Some-clause-nonempty
returns-in-Some-clause-nonempty g c =
    on_err c.copy_laid.result
    (λ e. some_not_none c.get.result c.if-is_none.ensures (c.get.ensures ∙ none_first c.args.arena.now c.requires.whole e))
