use Rattle.std.proofs.Common.{ap}
use Rattle.patricia_walks.proofs.value_cursor.into_parts.Goals as goal

pub returns-clause-whole : goal.returns-clause-whole
returns-clause-whole g c = c.cursor.invariant.held.whole

pub returns-clause-tree : goal.returns-clause-tree
returns-clause-tree g c = c.cursor.invariant.held.tree

pub returns-clause-map : goal.returns-clause-map
returns-clause-map g c = ap (λ s. s.map) c.cursor.view_is
