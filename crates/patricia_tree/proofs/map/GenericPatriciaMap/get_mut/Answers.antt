use Rattle.std.proofs.Common.{rules}
use Rattle.patricia_tree.proofs.map.GenericPatriciaMap.get_mut.Goals as goal

pub returns : goal.returns
returns g c = search rules
