use Rattle.std.proofs.Common.{◌≡◌, None}
use Rattle.patricia_model.specs.Internal.WalkStates.{entries_left}
use Rattle.patricia_walks.specs.Internal.Fronts.{IsFrontPosition, owned, moves_left, state_at}
use Rattle.patricia_walks.proofs.into_walk.OwnedTraversal.seek.Given as goal

abbrev pub invariant-loop-id : goal.invariant-loop-id
invariant-loop-id g l = record {
  place : IsFrontPosition g.K.Bytes.item (owned l.self);
  taken : (owned l.self).pending ≡ None;
  same : entries_left (state_at (owned l.self)) ≡ entries_left (state_at (owned l.fn.self));
}

abbrev pub decreases-loop-id : goal.decreases-loop-id
decreases-loop-id g l = moves_left (owned l.self)
