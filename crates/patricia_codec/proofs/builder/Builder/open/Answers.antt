use Rattle.std.proofs.Common.{rules}
use Rattle.patricia_codec.proofs.builder.Builder.open.Goals as goal

pub returns-in_ok-push : goal.returns-in_ok-push
returns-in_ok-push g c = search rules

pub returns-else-record : goal.returns-else-record
returns-else-record g c = search rules
