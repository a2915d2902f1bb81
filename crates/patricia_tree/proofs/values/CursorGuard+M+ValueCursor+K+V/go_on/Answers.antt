use Rattle.patricia_tree.proofs.CursorLemmas.{is_next_value}
use Rattle.patricia_tree.proofs.values.CursorGuard+M+ValueCursor+K+V.go_on.Goals as goal

pub returns-then-branch-clause-some : goal.returns-then-branch-clause-some
returns-then-branch-clause-some g c = λ _. is_next_value _ (c.in_ok-advance.ensures.found.0 c.if-branch.true)
