use Rattle.std.proofs.Common.{length}
use Rattle.patricia_tree.specs.ByteKind.{IsByteItem}
use Rattle.patricia_tree.specs.Edits.{IsNear}
use Rattle.patricia_c.specs.EntriesLeft.{pairs_of}
use Rattle.patricia_c.proofs.NearLemmas.{Copies}
use Rattle.patricia_c.proofs.near.copy_near.Given as goal

-- the near ones of the entries so far are copied
abbrev pub invariant-loop-found : goal.invariant-loop-found
invariant-loop-found l = Copies (λ e. IsNear IsByteItem l.fn.search.limit e.0 l.fn.search.sought) l.fn.search.left l.fn.search.sought l.fn.search.limit (pairs_of l.found.items) l.search

abbrev pub decreases-loop-found : goal.decreases-loop-found
decreases-loop-found l = length l.search.left
