use Rattle.std.proofs.Common.{rules}
use Rattle.patricia_codec.proofs.builder.Builder.new.Goals as goal

pub returns : goal.returns
returns g c = search rules
