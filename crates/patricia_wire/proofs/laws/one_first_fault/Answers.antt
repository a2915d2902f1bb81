use Rattle.patricia_wire.proofs.FirstFault.{one_first}
use Rattle.patricia_wire.proofs.NoFault.{no_fault_meant}
use Rattle.patricia_wire.proofs.laws.one_first_fault.Goals as goal

pub returns-clause-one : goal.returns-clause-one
returns-clause-one g c = one_first g.K.Bytes.item

pub returns-clause-none : goal.returns-clause-none
returns-clause-none g c = no_fault_meant g.K.Bytes.item
