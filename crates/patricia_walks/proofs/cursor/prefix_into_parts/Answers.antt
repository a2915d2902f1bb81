use Rattle.std.proofs.Common.{ap}
use Rattle.patricia_walks.proofs.CursorStateLemmas.{under_held}
use Rattle.patricia_walks.proofs.cursor.prefix_into_parts.Goals as goal

pub returns-clause-whole : goal.returns-clause-whole
returns-clause-whole g c = (under_held _ _ _ _ c.cursor.invariant).whole

pub returns-clause-tree : goal.returns-clause-tree
returns-clause-tree g c = (under_held _ _ _ _ c.cursor.invariant).tree

pub returns-clause-map : goal.returns-clause-map
returns-clause-map g c = ap (λ s. s.map) c.cursor.view_is
