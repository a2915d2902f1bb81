use Rattle.patricia_model.proofs.OutsideLemmas.{outside_together, outside_apart}
use Rattle.patricia_model.proofs.laws.split_parts.Goals as goal

pub returns-clause-together : goal.returns-clause-together
returns-clause-together g c p entries r = outside_together p entries r

pub returns-clause-apart : goal.returns-clause-apart
returns-clause-apart g c p entries r s a b same = outside_apart p entries r s a b same
