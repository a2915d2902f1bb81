use Rattle.prefixes_core.proofs.NameLemmas.{nothing_named, no_names}
use Rattle.prefixes_core.proofs.blocking.BlockList.new.Goals as goal

pub returns : goal.returns
returns c = rw c.new.ensures no_names

pub invariant_of-result : goal.invariant_of-result
invariant_of-result c = rw c.new.ensures nothing_named
