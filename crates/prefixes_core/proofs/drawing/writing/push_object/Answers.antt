use Rattle.std.proofs.Common.{arith}
use Rattle.std.proofs.lemmas.Grind.{common_steps}
use Rattle.prefixes_core.specs.Objects.{object_text}
use Rattle.prefixes_core.proofs.drawing.writing.push_object.Goals as goal

pub returns : goal.returns
unfolding object_text
returns c = grind (arith, common_steps)
