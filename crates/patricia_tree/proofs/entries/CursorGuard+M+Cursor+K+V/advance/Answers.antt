use Rattle.patricia_tree.proofs.LeftLemmas.{key_came}
use Rattle.patricia_tree.proofs.entries.CursorGuard+M+Cursor+K+V.advance.Goals as goal

pub returns-clause-stepped : goal.returns-clause-stepped
returns-clause-stepped g c = c.advance.ensures.stepped

pub returns-clause-left : goal.returns-clause-left
returns-clause-left g c = key_came g.K.Bytes.key _ _ _ c.advance.ensures.key c.advance.ensures.stepped
