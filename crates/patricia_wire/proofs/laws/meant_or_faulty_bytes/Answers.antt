use Rattle.patricia_keys.specs.ByteKind.{IsByteItem}
use Rattle.patricia_keys.specs.Internal.ByteLaw.{byte_lawful}
use Rattle.patricia_wire.proofs.MeantOrFaulty.{meant_or_first}
use Rattle.patricia_wire.proofs.ToldKeys.{bytes_told}
use Rattle.patricia_wire.proofs.laws.meant_or_faulty_bytes.Goals as goal

pub returns : goal.returns
returns g c = meant_or_first IsByteItem byte_lawful _ bytes_told
