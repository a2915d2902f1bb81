use Rattle.std.proofs.Common.{◌≡◌}
use Rattle.patricia_walks.specs.Internal.Fronts.{IsFrontPosition, moves_left}
use Rattle.patricia_walks.specs.Internal.CursorStates.{position_of, left_of}
use Rattle.patricia_walks.proofs.cursor_state.CursorState.seek.Given as goal

abbrev pub invariant-loop-id : goal.invariant-loop-id
invariant-loop-id g l = record {
  position : IsFrontPosition g.K.Bytes.item (position_of l.self);
  left : left_of l.self ≡ left_of l.initial.self;
  tree : l.self.tree.parts ≡ l.initial.self.tree.parts;
  last : l.self.tree.last ≡ l.initial.self.tree.last;
}

abbrev pub decreases-loop-id : goal.decreases-loop-id
decreases-loop-id g l = moves_left (position_of l.self)
