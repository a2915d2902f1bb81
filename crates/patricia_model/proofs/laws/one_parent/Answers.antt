use Rattle.patricia_model.proofs.PointLemmas.{one_parent}
use Rattle.patricia_model.proofs.laws.one_parent.Goals as goal

pub returns : goal.returns
returns g c S p q r a b = one_parent g.K.Bytes.item S p q r a b
