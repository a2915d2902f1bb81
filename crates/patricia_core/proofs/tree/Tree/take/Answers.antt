use Rattle.std.proofs.Common.{◌∙◌}
use Rattle.patricia_core.proofs.tree.Tree.take.Goals as goal

pub returns-clause-taken : goal.returns-clause-taken
returns-clause-taken g c = c.replace.ensures.value

pub returns-clause-left : goal.returns-clause-left
returns-clause-left g c = c.replace.ensures.after ∙ c.new-empty.ensures
