use Rattle.std.proofs.Common.{Some, None, refl}
use Rattle.patricia_model.specs.Siblings.{end, node}
use Rattle.patricia_wire.proofs.TestedSiblings.{byte_written}
use Rattle.std.specs.Prelude.{replicate}
use Rattle.patricia_wire.proofs.examples.long_label.Goals as goal

pub returns : goal.returns
returns c = byte_written 2 None (node (replicate 255 97) None (node (replicate 45 97) (Some tt) end end) end) refl refl refl
