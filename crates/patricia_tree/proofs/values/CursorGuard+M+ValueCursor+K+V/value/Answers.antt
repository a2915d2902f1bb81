use borrow.Author.Rules.{rules, get_or_read}
use Rattle.patricia_tree.proofs.values.CursorGuard+M+ValueCursor+K+V.value.Goals as goal

pub returns : goal.returns
returns g c = search (rules, get_or_read)
