use Rattle.patricia_wire.proofs.KeysOfTrees.{keys_of_tree}
use Rattle.patricia_wire.proofs.OneMeaning as lemma
use Rattle.patricia_wire.proofs.laws.one_key_list.Goals as goal

pub returns-clause-one : goal.returns-clause-one
returns-clause-one g c = lemma.one_key_list g.K.Bytes.item

pub returns-clause-keys : goal.returns-clause-keys
returns-clause-keys g c = keys_of_tree g.K.Bytes.item g.met.K.Bytes.lawful
