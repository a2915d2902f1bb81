use Rattle.std.proofs.Common.{ap, ◌∙◌}
use Rattle.std.specs.Option.{is_some}
use Rattle.patricia_tree.proofs.set.GenericPatriciaSet.remove.Goals as goal

pub returns-clause-was_there : goal.returns-clause-was_there
returns-clause-was_there g c = rw (← c.self.view_is) (c.is_some.ensures ∙ ap is_some c.in_ok-remove.ensures.old)
