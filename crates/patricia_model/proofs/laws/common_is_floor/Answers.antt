use Rattle.patricia_keys.proofs.KeyLemmas.{common_by_floor}
use Rattle.patricia_model.proofs.laws.common_is_floor.Goals as goal

pub returns : goal.returns
returns g c q b shared n s floor = common_by_floor g.K.Bytes.item q b shared n s floor
