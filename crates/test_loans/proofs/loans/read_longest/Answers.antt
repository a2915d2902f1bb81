use Rattle.std.proofs.Common.{rules}
use Rattle.test_loans.proofs.loans.read_longest.Goals as goal

pub returns-in-Some : goal.returns-in-Some
returns-in-Some g c = search rules
