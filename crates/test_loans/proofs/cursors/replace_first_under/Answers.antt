use Rattle.std.proofs.Common.{rules}
use Rattle.test_loans.proofs.cursors.replace_first_under.Goals as goal

pub returns-in-Some-clause-ok : goal.returns-in-Some-clause-ok
returns-in-Some-clause-ok g c = search rules

pub returns-clause-ok : goal.returns-clause-ok
returns-clause-ok g c = search rules
