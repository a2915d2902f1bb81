use Rattle.std.proofs.Common.{rules}
use Rattle.patricia_nodes.proofs.link.Link.none.Goals as goal

pub returns : goal.returns
returns c = search rules
