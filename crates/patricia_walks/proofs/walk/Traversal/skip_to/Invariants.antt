use Rattle.std.proofs.Common.{◌≡◌, length}
use Rattle.patricia_model.specs.Ranges.{from}
use Rattle.patricia_model.specs.Internal.WalkStates.{steps_left}
use Rattle.patricia_walks.specs.Internal.Fronts.{lent, seen}
use Rattle.patricia_walks.specs.Internal.Positions.{state_of}
use Rattle.patricia_walks.specs.Internal.Skips.{IsTowards, entries_ahead}
use Rattle.patricia_walks.proofs.walk.Traversal.skip_to.Given as goal

abbrev pub invariant-loop-self : goal.invariant-loop-self
invariant-loop-self g l = record {
  towards : IsTowards g.K.Bytes.item l.fn.key (seen (lent l.self));
  front : l.self.progress.front ≡ length l.self.progress.path.items;
  same : from l.fn.key (entries_ahead (seen (lent l.self))) ≡ from l.fn.key (entries_ahead (seen (lent l.initial.self)));
}

abbrev pub decreases-loop-self : goal.decreases-loop-self
decreases-loop-self g l = steps_left (state_of (seen (lent l.self)))
