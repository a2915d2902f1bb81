use Rattle.std.proofs.Common.{◌≡◌, None}
use Rattle.patricia_model.specs.Internal.WalkStates.{entries_left}
use Rattle.patricia_walks.specs.Internal.Fronts.{IsFrontPosition, lent, moves_left, state_at}
use Rattle.patricia_walks.proofs.walk.Traversal.seek.Given as goal

abbrev pub invariant-loop-id : goal.invariant-loop-id
invariant-loop-id g l = record {
  place : IsFrontPosition g.K.Bytes.item (lent l.self);
  taken : (lent l.self).pending ≡ None;
  same : entries_left (state_at (lent l.self)) ≡ entries_left (state_at (lent l.fn.self));
}

abbrev pub decreases-loop-id : goal.decreases-loop-id
decreases-loop-id g l = moves_left (lent l.self)
