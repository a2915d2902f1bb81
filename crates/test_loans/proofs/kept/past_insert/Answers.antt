use Rattle.std.proofs.Common.{rules}
use Rattle.test_loans.proofs.kept.past_insert.Goals as goal

pub returns-clause-there : goal.returns-clause-there
returns-clause-there g c = search rules
