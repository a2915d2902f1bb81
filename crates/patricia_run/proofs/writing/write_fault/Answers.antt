use Rattle.std.proofs.Common.{rules}
use Rattle.patricia_run.proofs.writing.write_fault.Goals as goal

pub returns : goal.returns
returns c = search rules
