use Rattle.std.proofs.Common.{[], ◌∷◌, Some, refl}
use Rattle.patricia_model.specs.Siblings.{end, node}
use Rattle.patricia_wire.proofs.TestedSiblings.{byte_written}
use Rattle.patricia_wire.proofs.examples.empty_key.Goals as goal

pub returns : goal.returns
returns c = byte_written 2 (Some tt) (node (97 ∷ []) (Some tt) end end) refl refl refl
