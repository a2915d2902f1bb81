use Rattle.std.proofs.Common.{ap, not, ◌∙◌, arith}
use Rattle.patricia_tree.proofs.AfterLemmas.{at_error}
use Rattle.patricia_tree.proofs.WholeLemmas.{filled_too, shared_turned}
use Rattle.patricia_tree.proofs.set.GenericPatriciaSet.is_disjoint.Goals as goal
use Rattle.patricia_tree.proofs.set.GenericPatriciaSet.is_disjoint.Goals.{then-len+in_ok-shared, else-len+in_ok-shared-2}

pub returns-in_err-shared-clause-err_only_other_nonempty :
    goal.returns-in_err-shared-clause-err_only_other_nonempty
returns-in_err-shared-clause-err_only_other_nonempty g c = at_error _ _
    (filled_too c.args.self.now c.args.other.now
    (omega (arith, c.len.ensures, c.len-2.ensures, c.if-len.true)) c.in_err-shared.ensures.err_only_nonempty)

pub returns-in_err-shared-2-clause-err_only_nonempty :
    goal.returns-in_err-shared-2-clause-err_only_nonempty
returns-in_err-shared-2-clause-err_only_nonempty g c = at_error _ _
    (filled_too c.args.other.now c.args.self.now
    (omega (arith, c.len.ensures, c.len-2.ensures, c.if-len.false)) c.in_err-shared-2.ensures.err_only_nonempty)

pub returns-clause-disjoint : goal.returns-clause-disjoint
returns-clause-disjoint g c = elim c.if-len.branch [
  | then-len+in_ok-shared w ↦ ap not (w.shared-is ∙ w.in_ok-shared.ensures.found)
  | else-len+in_ok-shared-2 w ↦ ap not (w.shared-is ∙ w.in_ok-shared-2.ensures.found ∙ shared_turned c.args.other.now c.args.self.now)
]
