use Rattle.test_loans.proofs.KeyListLemmas.{at_key, keys_one}
use Rattle.test_loans.proofs.encodings.alone.Goals as goal

pub returns : goal.returns
returns c = keys_one _ _ _ c.new-m.ensures (at_key _ _ _ _ _ c.in_ok-put.ensures c.as_slice.ensures)
