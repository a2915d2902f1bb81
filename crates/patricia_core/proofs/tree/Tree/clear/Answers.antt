use Rattle.std.proofs.Common.{rules}
use Rattle.patricia_model.proofs.TreeLemmas.{map_of_none}
use Rattle.patricia_core.proofs.tree.Tree.clear.Goals as goal

pub returns : goal.returns
returns g c = rw c.clear.ensures.siblings map_of_none

pub invariant_of-self : goal.invariant_of-self
invariant_of-self g c = search rules
