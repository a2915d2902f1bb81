use Rattle.std.specs.FinMap as map
use Rattle.patricia_tree.proofs.WholeLemmas.{all_turned, filled_turned, ok_along}
use Rattle.patricia_walks.proofs.LowerLemmas.{then_at_error}
use Rattle.patricia_tree.proofs.set.GenericPatriciaSet.union.Goals as goal

pub returns-else-len-clause-all : goal.returns-else-len-clause-all
returns-else-len-clause-all g c = ok_along c.with_all-else-len.result _ _
    (all_turned c.args.other.now c.args.self.now) c.with_all-else-len.ensures.all

pub returns-else-len-clause-err_only_nonempty : goal.returns-else-len-clause-err_only_nonempty
returns-else-len-clause-err_only_nonempty g c = then_at_error _ _ c.with_all-else-len.result
    (filled_turned (map.entries c.args.self.now) (map.entries c.args.other.now))
    c.with_all-else-len.ensures.err_only_nonempty
