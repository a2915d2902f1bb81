use Rattle.std.proofs.Common.{rules}
use Rattle.test_loans.proofs.loans.replace_longest.Goals as goal

pub returns : goal.returns
returns g c = search rules
