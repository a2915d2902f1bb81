use Rattle.std.proofs.Common.{rules}
use Rattle.patricia_codec.proofs.reader.Reader.new.Goals as goal

pub returns-clause-start : goal.returns-clause-start
returns-clause-start c = search rules
