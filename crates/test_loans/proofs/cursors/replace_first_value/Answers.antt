use Rattle.std.proofs.Common.{rules}
use Rattle.test_loans.proofs.cursors.replace_first_value.Goals as goal

pub returns-clause-ok : goal.returns-clause-ok
returns-clause-ok g c = search rules
