use Rattle.patricia_keys.proofs.TextLemmas.{text_valid}
use Rattle.patricia_keys.proofs.keys.text.RefStrBorrowedBytes.as_bytes.Goals as goal

pub returns-clause-valid : goal.returns-clause-valid
returns-clause-valid c = text_valid _ (rw c.as_bytes.ensures.value at c.as_bytes.ensures.utf8)
