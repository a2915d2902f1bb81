use Rattle.std.proofs.Common.{rules}
use Rattle.patricia_run.proofs.writing.write_reply.Goals as goal

pub returns-in-TooDeep : goal.returns-in-TooDeep
returns-in-TooDeep g c = search rules
