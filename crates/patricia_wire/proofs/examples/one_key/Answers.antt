use Rattle.std.proofs.Common.{Some, None, refl}
use Rattle.patricia_model.specs.Siblings.{end, node}
use Rattle.patricia_wire.proofs.TestedSiblings.{byte_written}
use Rattle.patricia_wire.specs.Internal.Examples.{lone_key}
use Rattle.patricia_wire.proofs.examples.one_key.Goals as goal

pub returns : goal.returns
returns c = byte_written 2 None (node lone_key (Some tt) end end) refl refl refl
