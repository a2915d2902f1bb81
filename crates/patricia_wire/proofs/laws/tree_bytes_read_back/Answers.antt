use Rattle.patricia_wire.proofs.ReadBack.{reads_back}
use Rattle.patricia_wire.proofs.laws.tree_bytes_read_back.Goals as goal

pub returns : goal.returns
returns g c = reads_back g.K.Bytes.item
