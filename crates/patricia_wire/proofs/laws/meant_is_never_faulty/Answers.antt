use Rattle.patricia_wire.proofs.ReadBack.{no_first_fault}
use Rattle.patricia_wire.proofs.laws.meant_is_never_faulty.Goals as goal

pub returns : goal.returns
returns g c = no_first_fault g.K.Bytes.item
