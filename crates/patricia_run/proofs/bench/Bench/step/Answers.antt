use Rattle.std.proofs.Common.{rules}
use Rattle.patricia_run.proofs.bench.Bench.step.Goals as goal

pub returns-in-Len : goal.returns-in-Len
returns-in-Len g c = search rules

pub returns-in-Insert : goal.returns-in-Insert
returns-in-Insert g c = search rules

pub returns-in-Wire : goal.returns-in-Wire
returns-in-Wire g c = search rules
