use Rattle.patricia_tree.specs.Left.{left}
use Rattle.test_loans.proofs.loops.add_one_under_any.Given as goal

abbrev pub decreases-values : goal.decreases-values
decreases-values g l = left l.cursor.at
