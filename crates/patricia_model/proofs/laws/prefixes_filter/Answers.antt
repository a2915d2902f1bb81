use Rattle.patricia_model.proofs.PrefixLemmas.{begins_is, begins_from}
use Rattle.patricia_model.proofs.FilterLemmas.{under_has, along_has}
use Rattle.patricia_model.proofs.laws.prefixes_filter.Goals as goal

pub returns-clause-test : goal.returns-clause-test
returns-clause-test g c p k = (begins_is p k, begins_from p k)

pub returns-clause-under : goal.returns-clause-under
returns-clause-under g c p entries r = under_has p entries r

pub returns-clause-along : goal.returns-clause-along
returns-clause-along g c k entries r = along_has k entries r
