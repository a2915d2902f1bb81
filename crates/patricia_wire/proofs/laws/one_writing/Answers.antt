use Rattle.patricia_wire.proofs.OneTree as lemma
use Rattle.patricia_wire.proofs.laws.one_writing.Goals as goal

pub returns : goal.returns
returns g c = lemma.one_writing g.K.Bytes.item g.met.K.Bytes.lawful
