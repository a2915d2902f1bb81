use Rattle.std.proofs.Common.{rules}
use Rattle.test_loans.proofs.kept.under_cursor.Goals as goal

pub returns : goal.returns
returns g c = search rules
