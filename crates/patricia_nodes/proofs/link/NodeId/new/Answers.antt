use Rattle.std.proofs.Common.{rules}
use Rattle.patricia_nodes.proofs.link.NodeId.new.Goals as goal

pub returns : goal.returns
returns c = search rules
