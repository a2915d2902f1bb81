use Rattle.std.proofs.Common.{arith}
use Rattle.std.proofs.lemmas.Grind.{common_steps}
use Rattle.patricia_run.proofs.writing.write_longest.Goals as goal

pub returns : goal.returns
returns c = grind (arith, common_steps)
