use Rattle.patricia_wire.proofs.MeantOrFaulty.{meant_or_first, never_neither}
use Rattle.patricia_wire.proofs.laws.meant_or_faulty.Goals as goal

pub returns-clause-never_neither : goal.returns-clause-never_neither
returns-clause-never_neither g c = never_neither g.K.Bytes.item g.met.K.Bytes.lawful _

pub returns-clause-told : goal.returns-clause-told
returns-clause-told g c = meant_or_first g.K.Bytes.item g.met.K.Bytes.lawful _
