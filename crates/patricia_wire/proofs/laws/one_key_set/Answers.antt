use Rattle.patricia_wire.proofs.OneMeaning as lemma
use Rattle.patricia_wire.proofs.laws.one_key_set.Goals as goal

pub returns : goal.returns
returns g c = lemma.one_key_set g.K.Bytes.item
