use Rattle.patricia_model.proofs.UniqueLemmas.{same_siblings}
use Rattle.patricia_model.proofs.laws.one_shape.Goals as goal

pub returns : goal.returns
returns g c limit r s ok ok' same = same_siblings g.K.Bytes.item g.met.K.Bytes.lawful limit r s ok ok' same
