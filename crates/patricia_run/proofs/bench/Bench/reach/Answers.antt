use Rattle.std.proofs.Common.{rules}
use Rattle.patricia_run.proofs.bench.Bench.reach.Goals as goal

pub returns : goal.returns
returns g c = search rules
