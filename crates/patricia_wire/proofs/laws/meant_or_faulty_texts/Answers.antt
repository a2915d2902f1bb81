use Rattle.patricia_keys.specs.TextKind.{IsTextItem}
use Rattle.patricia_keys.specs.Internal.TextLaw.{text_lawful}
use Rattle.patricia_wire.proofs.MeantOrFaulty.{meant_or_first}
use Rattle.patricia_wire.proofs.ToldKeys.{texts_told}
use Rattle.patricia_wire.proofs.laws.meant_or_faulty_texts.Goals as goal

pub returns : goal.returns
returns g c = meant_or_first IsTextItem text_lawful _ texts_told
