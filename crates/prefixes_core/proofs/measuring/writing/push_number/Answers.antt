use Rattle.std.proofs.Common.{arith}
use Rattle.std.proofs.lemmas.Grind.{common_steps}
use Rattle.prefixes_core.specs.Measures.{number_line}
use Rattle.prefixes_core.proofs.measuring.writing.push_number.Goals as goal

pub returns : goal.returns
unfolding number_line
returns c = grind (arith, common_steps)
