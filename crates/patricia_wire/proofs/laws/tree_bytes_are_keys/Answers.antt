use Rattle.patricia_wire.proofs.BytesOfTrees.{tells_key_sets, depends_on_keys_alone}
use Rattle.patricia_wire.proofs.laws.tree_bytes_are_keys.Goals as goal

pub returns-clause-equal : goal.returns-clause-equal
returns-clause-equal g c = tells_key_sets g.K.Bytes.item g.met.K.Bytes.lawful _ _

pub returns-clause-values : goal.returns-clause-values
returns-clause-values g c = depends_on_keys_alone g.K.Bytes.item g.met.K.Bytes.lawful _ _
