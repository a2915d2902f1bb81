use Rattle.std.proofs.Common.{length, ap, ◌∙◌}
use Rattle.std.specs.FinMap.{len-entries}
use Rattle.patricia_tree.proofs.map.GenericPatriciaMap.remove_prefix.Goals as goal

pub returns-clause-count : goal.returns-clause-count
returns-clause-count g c = c.len.ensures ∙ len-entries c.in_ok-removed.removed ∙ ap length c.in_ok-removed.ensures.taken
