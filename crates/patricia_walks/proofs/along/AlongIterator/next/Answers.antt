use Rattle.std.proofs.Common.{rules}
use Rattle.patricia_walks.proofs.along.AlongIterator.next.Goals as goal

pub returns-clause-steps : goal.returns-clause-steps
returns-clause-steps g c = search rules
