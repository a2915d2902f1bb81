use Rattle.std.proofs.Common.{rules}
use Rattle.patricia_model.proofs.TreeLemmas.{map_of_none}
use Rattle.patricia_core.proofs.tree.Tree.new.Goals as goal

pub returns : goal.returns
returns g c = rw c.new.ensures.siblings map_of_none

pub invariant_of-result : goal.invariant_of-result
invariant_of-result g c = search rules
