use Rattle.patricia_model.proofs.PointLemmas.{paths_apart}
use Rattle.patricia_model.proofs.TreeLemmas.{tree_points}
use Rattle.patricia_model.proofs.laws.points_of_tree.Goals as goal

pub returns : goal.returns
returns g c v r n tree =
    let kind = g.met.K.Bytes.lawful in
    (paths_apart g.K.Bytes.item kind r tree.canonical, tree_points g.K.Bytes.item kind v r tree.canonical)
