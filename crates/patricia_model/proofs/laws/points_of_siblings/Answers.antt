use Rattle.patricia_model.proofs.PointLemmas.{paths_apart, paths_points}
use Rattle.patricia_model.proofs.laws.points_of_siblings.Goals as goal

pub returns : goal.returns
returns g c siblings ok =
    let kind = g.met.K.Bytes.lawful in
    (paths_apart g.K.Bytes.item kind siblings ok, paths_points g.K.Bytes.item kind siblings ok)
