use Rattle.std.proofs.Common.{rules}
use Rattle.patricia_nodes.proofs.arena.NodeArena.node_count.Goals as goal

pub returns : goal.returns
returns g c = search rules
