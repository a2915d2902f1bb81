use Rattle.std.proofs.Common.{arith}
use Rattle.patricia_tree.proofs.WholeLemmas.{filled_longer}
use Rattle.patricia_walks.proofs.LowerLemmas.{then_at_error}
use Rattle.patricia_tree.proofs.set.GenericPatriciaSet.difference.Goals as goal

pub returns-then-len-clause-err_only_nonempty : goal.returns-then-len-clause-err_only_nonempty
returns-then-len-clause-err_only_nonempty g c = then_at_error _ _ c.without_all.result
    (filled_longer c.args.self.now c.args.other.now (omega (arith, c.len.ensures, c.len-2.ensures, c.if-len.true)))
    c.without_all.ensures.err_only_nonempty
