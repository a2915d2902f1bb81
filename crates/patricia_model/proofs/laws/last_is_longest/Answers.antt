use Rattle.std.specs.FinMap.{entries_sorted}
use Rattle.patricia_model.proofs.FilterLemmas.{longest_last}
use Rattle.patricia_model.proofs.laws.last_is_longest.Goals as goal

pub returns : goal.returns
returns g c m k r e = longest_last _ (entries_sorted m) k r e
