use Rattle.patricia_wire.proofs.KeysOfTrees.{meant_map}
use Rattle.patricia_wire.proofs.OneMeaning as lemma
use Rattle.patricia_wire.proofs.laws.one_meaning.Goals as goal

pub returns-clause-one : goal.returns-clause-one
returns-clause-one g c = lemma.one_meaning g.K.Bytes.item

pub returns-clause-map : goal.returns-clause-map
returns-clause-map g c = meant_map g.K.Bytes.item g.met.K.Bytes.lawful
