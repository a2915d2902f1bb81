use Rattle.std.proofs.lemmas.Str.{IsCharBoundary-from_take}
use Rattle.patricia_keys.proofs.TextLemmas.{valid_text}
use Rattle.patricia_keys.proofs.keys.text.RefStrBorrowedBytes.strip_n_prefix.Goals as goal

pub range_from-requires : goal.range_from-requires
range_from-requires c _ = IsCharBoundary-from_take _ _ c.utf8.self c.requires.within (valid_text _ c.requires.valid)
