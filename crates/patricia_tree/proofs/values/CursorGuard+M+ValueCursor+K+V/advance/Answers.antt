use Rattle.patricia_tree.proofs.LeftLemmas.{no_entry_came, entry_came}
use Rattle.patricia_tree.proofs.values.CursorGuard+M+ValueCursor+K+V.advance.Goals as goal

pub returns-clause-stepped : goal.returns-clause-stepped
returns-clause-stepped g c = c.advance.ensures.stepped

pub returns-clause-left : goal.returns-clause-left
returns-clause-left g c = entry_came _ _ _ c.advance.ensures.found c.advance.ensures.stepped

pub returns-clause-none_left : goal.returns-clause-none_left
returns-clause-none_left g c = no_entry_came _ _ c.advance.ensures.found
