use Rattle.std.proofs.Common.{arith}
use Rattle.std.proofs.lemmas.Grind.{common_steps}
use Rattle.prefixes_core.specs.Objects.{member_text}
use Rattle.prefixes_core.proofs.json.push_member.Goals as goal

pub returns : goal.returns
unfolding member_text
returns g c = grind (arith, common_steps)
