use Rattle.std.proofs.Common.{rules}
use Rattle.patricia_tree.proofs.set.GenericPatriciaSet.clone.Goals as goal

pub returns-clause-same : goal.returns-clause-same
returns-clause-same g c = search rules
