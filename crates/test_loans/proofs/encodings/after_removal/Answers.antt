use Rattle.test_loans.proofs.KeyListLemmas.{at_key, at_removal, keys_after_removal}
use Rattle.test_loans.proofs.encodings.after_removal.Goals as goal

pub returns : goal.returns
returns c =
    keys_after_removal _ _ _ _ _ _ _ _ c.new-m.ensures (at_key _ _ _ _ _ c.in_ok-put.ensures c.as_slice.ensures) (at_key _ _ _ _ _ c.in_ok-put-2.ensures c.as_slice-2.ensures)
    (at_key _ _ _ _ _ c.in_ok-put-3.ensures c.as_slice-3.ensures) (at_removal _ _ _ _ c.in_ok-remove.ensures.ok c.as_slice-4.ensures)
