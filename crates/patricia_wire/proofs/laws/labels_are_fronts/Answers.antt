use Rattle.patricia_wire.proofs.FrontLemmas.{labels_are_fronts}
use Rattle.patricia_wire.proofs.laws.labels_are_fronts.Goals as goal

pub returns : goal.returns
returns g c = labels_are_fronts g.K.Bytes.item g.met.K.Bytes.lawful
