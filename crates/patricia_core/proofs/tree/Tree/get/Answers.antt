use Rattle.std.proofs.Common.{rules}
use Rattle.patricia_core.proofs.tree.Tree.get.Goals as goal

pub returns : goal.returns
returns g c = search rules
