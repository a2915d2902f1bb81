use Rattle.std.proofs.Common.{rules}
use Rattle.patricia_nodes.proofs.link.Link.get.Goals as goal

pub returns-else-self-eq0 : goal.returns-else-self-eq0
returns-else-self-eq0 c = search rules
