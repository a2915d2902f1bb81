use Rattle.std.proofs.Common.{rules}
use Rattle.patricia_tree.proofs.set.GenericPatriciaSet.insert.Goals as goal

pub returns-clause-is_new : goal.returns-clause-is_new
returns-clause-is_new g c = search rules
