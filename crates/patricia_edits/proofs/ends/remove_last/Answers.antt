use Rattle.std.proofs.Common.{List, ℕ, sym, subst, ◌∙◌}
use Rattle.patricia_nodes.specs.Internal.Plans.{entries_of}
use Rattle.patricia_edits.specs.Internal.Ends.{IsLastKey}
use Rattle.patricia_edits.proofs.ComeLemmas.{root_filled}
use Rattle.patricia_edits.proofs.RemoveLemmas.{on_err_from}
use Rattle.patricia_edits.proofs.TakenLemmas.{took_last}
use Rattle.patricia_edits.proofs.ends.remove_last.Goals as goal

pub returns-in_err-path-clause-err_only_nonempty : goal.returns-in_err-path-clause-err_only_nonempty
returns-in_err-path-clause-err_only_nonempty g c = on_err_from _
    (root_filled g.K.Bytes.item g.met.K.Bytes.lawful c.args.arena.now c.requires.whole
    c.requires.siblings c.in-Some.first (sym c.get.ensures ∙ c.in-Some.is))

pub returns-in_err-at-clause-err_only_nonempty : goal.returns-in_err-at-clause-err_only_nonempty
returns-in_err-at-clause-err_only_nonempty g c = on_err_from _
    (root_filled g.K.Bytes.item g.met.K.Bytes.lawful c.args.arena.now c.requires.whole
    c.requires.siblings c.in-Some.first (sym c.get.ensures ∙ c.in-Some.is))

pub returns-clause-taken : goal.returns-clause-taken
returns-clause-taken g c =
    let shows : g.row.K.Denot × g.row.V.Denot
    → List ℕ × g.row.V.Denot = λ e. (g.K.Bytes.key e.0, e.1) in
    let key = c.in_ok-key.ensures ∙ c.deref.ensures.value in
    took_last g.K.Bytes.item g.met.K.Bytes.lawful shows c.args.arena.now c.take_at.new.arena
    c.requires.siblings
    (g.K.Bytes.key c.in_ok-key.key) (subst (IsLastKey (entries_of c.args.arena.now)) (sym key)
    c.in_ok-at.ensures.last)
    c.take_at.result c.take_at.ensures.entry c.take_at.ensures.left
