use Rattle.std.proofs.lemmas.Str.{IsCharBoundary-from_take}
use Rattle.patricia_keys.proofs.TextLemmas.{valid_text}
use Rattle.patricia_keys.proofs.keys.text.RefStrBorrowedBytes.keep_n_prefix.Goals as goal

pub range-requires-clause-end_boundary : goal.range-requires-clause-end_boundary
range-requires-clause-end_boundary c = IsCharBoundary-from_take _ _ c.utf8.self c.requires.within (valid_text _ c.requires.valid)
