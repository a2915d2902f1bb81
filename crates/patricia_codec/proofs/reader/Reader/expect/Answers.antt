use Rattle.std.proofs.Common.{arith}
use Rattle.std.proofs.lemmas.Grind.{common_steps}
use Rattle.patricia_codec.proofs.reader.Reader.expect.Goals as goal

pub returns-in_ok-push-2-clause-due : goal.returns-in_ok-push-2-clause-due
returns-in_ok-push-2-clause-due c = grind (arith, common_steps)
