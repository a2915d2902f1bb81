use Rattle.patricia_wire.proofs.ReadBack.{memory_alone}
use Rattle.patricia_wire.proofs.laws.meant_is_never_refused.Goals as goal

pub returns : goal.returns
returns g c = memory_alone g.K.Bytes.item
