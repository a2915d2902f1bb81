use Rattle.std.proofs.Common.{length}
use Rattle.patricia_c.proofs.BlockLemmas.{Walks}
use Rattle.patricia_c.proofs.blocks.write_entries.Given as goal

-- what is written so far, and what the walk has still left
abbrev pub invariant-loop-walk : goal.invariant-loop-walk
invariant-loop-walk l = Walks l.fn.prefix l.fn.walk.left l.walk.left l.filled l.room l.lens l.values l.fn.room l.fn.lens l.fn.values

abbrev pub decreases-loop-walk : goal.decreases-loop-walk
decreases-loop-walk l = length l.walk.left
