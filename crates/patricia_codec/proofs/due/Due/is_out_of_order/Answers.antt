use Rattle.std.proofs.Common.{rules}
use Rattle.patricia_codec.proofs.due.Due.is_out_of_order.Goals as goal

pub returns-in-Some-clause-out : goal.returns-in-Some-clause-out
returns-in-Some-clause-out g c = search rules

pub returns-in-Some-clause-in_order : goal.returns-in-Some-clause-in_order
returns-in-Some-clause-in_order g c = search rules
