use Rattle.std.proofs.Common.{ap, not, ◌∙◌}
use Rattle.std.specs.FinMap as map
use Rattle.patricia_tree.proofs.WholeLemmas.{all_pass}
use Rattle.patricia_tree.proofs.set.GenericPatriciaSet.is_subset.Goals as goal

pub returns-clause-subset : goal.returns-clause-subset
returns-clause-subset g c = ap not c.in_ok-finds.ensures.found ∙ all_pass (map.contains_key c.args.other.now) (map.keys c.args.self.now)
