use Rattle.patricia_keys.proofs.TextLemmas.{text_tests}
use Rattle.patricia_keys.proofs.keys.text.StringBytes.is_valid_bytes.Goals as goal

pub returns : goal.returns
returns c = rw c.is_ok.ensures.value (text_tests _ _ _ c.from_utf8.result c.from_utf8.ensures.cases)
