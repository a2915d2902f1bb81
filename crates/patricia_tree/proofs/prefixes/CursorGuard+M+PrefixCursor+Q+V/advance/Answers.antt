use Rattle.patricia_tree.proofs.LeftLemmas.{key_came}
use Rattle.patricia_tree.proofs.prefixes.CursorGuard+M+PrefixCursor+Q+V.advance.Goals as goal

pub returns-clause-key : goal.returns-clause-key
returns-clause-key g c = c.advance.ensures.key

pub returns-clause-left : goal.returns-clause-left
returns-clause-left g c = key_came g.K.Bytes.key _ _ _ c.advance.ensures.key c.advance.ensures.stepped
