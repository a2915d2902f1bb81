use Rattle.patricia_keys.proofs.TextLemmas.{valid_text}
use Rattle.patricia_keys.proofs.keys.text.text_of.Goals as goal

pub unreachable-requires : goal.unreachable-requires
unreachable-requires c = c.in-Err.ensures.cases.0 (valid_text _ c.requires)
