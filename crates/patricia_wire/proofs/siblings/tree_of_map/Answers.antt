use Rattle.patricia_wire.proofs.SiblingsOfMaps.{held}
use Rattle.patricia_wire.proofs.siblings.tree_of_map.Goals as goal

pub returns : goal.returns
returns g c = held g.K.Bytes.item g.met.K.Bytes.lawful
