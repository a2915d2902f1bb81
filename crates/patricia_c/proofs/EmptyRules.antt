-- What is cited where there is no map, or nothing in it.
use Rattle.std.specs.FinMap.{get-empty}
use Rattle.patricia_model.proofs.OutsideLemmas.{outside_all, outside_empty}
use Rattle.patricia_model.proofs.PrefixLemmas.{under_empty}
use Rattle.patricia_c.proofs.CursorLemmas.{ahead_empty, emptied, filled, under_taken, under_whole}
use Rattle.patricia_c.proofs.EmptyLemmas.{behind_entries, behind_get, behind_len, empty_is, none_entries, none_get, none_reach, none_remove}
use Rattle.patricia_c.proofs.NearLemmas.{picks_none}

-- there is no map
pub ruleset no_map = (get-empty, behind_entries, behind_get, behind_len, none_entries, none_get, none_reach, none_remove)

-- a map has no entries
pub ruleset no_entry = (behind_entries, emptied, filled, ahead_empty, picks_none)

-- a prefix is empty
pub ruleset no_byte = (none_entries, empty_is, under_empty, under_taken, under_whole, outside_all, outside_empty)
