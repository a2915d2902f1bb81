use Rattle.std.proofs.Common.{rules}
use Rattle.patricia_codec.proofs.record.Record.flags.Goals as goal

pub returns : goal.returns
returns c = search rules
