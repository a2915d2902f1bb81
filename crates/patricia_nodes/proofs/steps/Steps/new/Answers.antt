use Rattle.std.proofs.Common.{rules}
use Rattle.patricia_nodes.proofs.steps.Steps.new.Goals as goal

pub returns : goal.returns
returns g c = search rules
