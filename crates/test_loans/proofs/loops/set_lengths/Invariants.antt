use Rattle.patricia_tree.specs.Left.{left}
use Rattle.test_loans.proofs.loops.set_lengths.Given as goal

abbrev pub decreases-keys : goal.decreases-keys
decreases-keys l = left l.cursor.at
