use Rattle.std.proofs.Common.{rules}
use Rattle.patricia_run.proofs.reading.from_fields.Goals as goal

pub returns-in-None : goal.returns-in-None
returns-in-None g c = search rules
