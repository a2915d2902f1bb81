use Rattle.std.proofs.Common.{rules}
use Rattle.patricia_codec.proofs.due.Due.check_label.Goals as goal

pub is_out_of_order-requires-clause-valid : goal.is_out_of_order-requires-clause-valid
is_out_of_order-requires-clause-valid g c = search rules

pub returns-then-is_out_of_order-clause-broken : goal.returns-then-is_out_of_order-clause-broken
returns-then-is_out_of_order-clause-broken g c = search rules

pub returns-clause-kept : goal.returns-clause-kept
returns-clause-kept g c = search rules
