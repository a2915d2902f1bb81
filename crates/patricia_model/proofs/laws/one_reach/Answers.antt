use Rattle.patricia_model.proofs.FilterLemmas.{one_reach}
use Rattle.patricia_model.proofs.laws.one_reach.Goals as goal

pub returns : goal.returns
returns g c S q n m a b = one_reach g.K.Bytes.item S q n m a b
