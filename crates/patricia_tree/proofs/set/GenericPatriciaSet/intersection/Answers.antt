use Rattle.std.proofs.Common.{arith}
use Rattle.patricia_tree.proofs.WholeLemmas.{both_turned, filled_too, ok_along}
use Rattle.patricia_walks.proofs.LowerLemmas.{then_at_error}
use Rattle.patricia_tree.proofs.set.GenericPatriciaSet.intersection.Goals as goal

pub returns-then-len-clause-err_only_other_nonempty :
    goal.returns-then-len-clause-err_only_other_nonempty
returns-then-len-clause-err_only_other_nonempty g c = then_at_error _ _ c.chosen.result
    (filled_too c.args.self.now c.args.other.now (omega (arith, c.len.ensures, c.len-2.ensures, c.if-len.true)))
    c.chosen.ensures.err_only_nonempty

pub returns-else-len-clause-both : goal.returns-else-len-clause-both
returns-else-len-clause-both g c = ok_along c.chosen-else-len.result _ _
    (both_turned c.args.other.now c.args.self.now) c.chosen-else-len.ensures.chosen

pub returns-else-len-clause-err_only_nonempty : goal.returns-else-len-clause-err_only_nonempty
returns-else-len-clause-err_only_nonempty g c = then_at_error _ _ c.chosen-else-len.result
    (filled_too c.args.other.now c.args.self.now (omega (arith, c.len.ensures, c.len-2.ensures, c.if-len.false)))
    c.chosen-else-len.ensures.err_only_nonempty
