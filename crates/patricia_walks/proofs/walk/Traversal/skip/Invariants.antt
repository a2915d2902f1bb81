use Rattle.std.proofs.Common.{◌≡◌, ◌≤◌, None, length}
use Rattle.patricia_walks.specs.Internal.Fronts.{lent, seen}
use Rattle.patricia_walks.proofs.PassLemmas.{IsPassing}
use Rattle.patricia_walks.proofs.walk.Traversal.skip.Given as goal

abbrev pub invariant-loop-front : goal.invariant-loop-front
invariant-loop-front g l = record {
  passing : IsPassing g.K.Bytes.item l.len (seen (lent l.fn.self)) (seen (lent l.self));
  none : l.self.progress.next ≡ None;
  within : l.self.progress.front ≤ length l.self.progress.path.items;
}

abbrev pub decreases-loop-front : goal.decreases-loop-front
decreases-loop-front g l = length l.self.progress.stack.items
