use Rattle.std.proofs.Common.{sym}
use Rattle.patricia_tree.proofs.map.GenericPatriciaMap.get_longest_common_prefix_mut.Goals as goal

pub returns-in-Some-clause-entry : goal.returns-in-Some-clause-entry
returns-in-Some-clause-entry g c = sym (c.in-Some.ensures.is_longest _ c.value_mut.ensures.value)

pub returns-in-Some-clause-part : goal.returns-in-Some-clause-part
returns-in-Some-clause-part g c = c.in-Some.ensures.begins
