use Rattle.std.proofs.Common.{rules}
use Rattle.patricia_codec.proofs.records.Records.new.Goals as goal

pub returns-clause-start : goal.returns-clause-start
returns-clause-start g c = search rules
