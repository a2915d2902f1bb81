use Rattle.std.proofs.Common.{rules}
use Rattle.patricia_tree.proofs.set.GenericPatriciaSet.split_by_prefix.Goals as goal

pub returns-clause-taken : goal.returns-clause-taken
returns-clause-taken g c = search rules

pub returns-clause-left : goal.returns-clause-left
returns-clause-left g c = search rules
