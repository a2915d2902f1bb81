use Rattle.std.proofs.Common.{ap, ◌∙◌}
use Rattle.patricia_tree.specs.Siblings.{keys_of}
use Rattle.patricia_tree.proofs.set.GenericPatriciaSet.iter_prefix.Goals as goal

pub returns : goal.returns
returns g c = rw (← c.self.view_is) (c.new.ensures ∙ ap keys_of c.iter_prefix.ensures)
