use Rattle.std.proofs.Common.{rules}
use Rattle.patricia_tree.proofs.map.GenericPatriciaMap.contains_key.Goals as goal

pub returns : goal.returns
returns g c = search rules
