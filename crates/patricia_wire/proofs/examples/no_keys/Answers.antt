use Rattle.std.proofs.Common.{None, refl}
use Rattle.patricia_model.specs.Siblings.{end}
use Rattle.patricia_wire.proofs.TestedSiblings.{byte_written}
use Rattle.patricia_wire.proofs.examples.no_keys.Goals as goal

pub returns : goal.returns
returns c = byte_written 2 None end refl refl refl
