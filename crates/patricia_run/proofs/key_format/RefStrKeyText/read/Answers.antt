use Rattle.patricia_run.proofs.KeyTextLemmas.{read_text}
use Rattle.patricia_run.proofs.key_format.RefStrKeyText.read.Goals as goal

pub returns : goal.returns
returns c = rw c.ok.ensures.value (read_text (λ s. s.now) _ c.args.field.now c.from_utf8.result c.from_utf8.ensures.cases)
