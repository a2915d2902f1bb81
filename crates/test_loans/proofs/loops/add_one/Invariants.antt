use Rattle.patricia_tree.specs.Left.{left}
use Rattle.test_loans.proofs.loops.add_one.Given as goal

abbrev pub decreases-values : goal.decreases-values
decreases-values l = left l.cursor.at
