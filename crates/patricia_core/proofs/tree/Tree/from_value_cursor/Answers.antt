use borrow.Author.Rules.{rules}
use Rattle.patricia_core.proofs.tree.Tree.from_value_cursor.Goals as goal

pub returns : goal.returns
returns g c = search rules
