use Rattle.patricia_wire.proofs.OneTree.{one_tree}
use Rattle.patricia_wire.proofs.laws.one_tight_tree.Goals as goal

pub returns : goal.returns
returns g c = one_tree g.K.Bytes.item g.met.K.Bytes.lawful
