use Rattle.test_loans.proofs.KeyListLemmas.{at_key, keys_two}
use Rattle.test_loans.proofs.encodings.in_order.Goals as goal

pub returns : goal.returns
returns c = keys_two _ _ _ _ _ c.new-m.ensures (at_key _ _ _ _ _ c.in_ok-put.ensures c.as_slice.ensures) (at_key _ _ _ _ _ c.in_ok-put-2.ensures c.as_slice-2.ensures)
