use Rattle.std.proofs.Common.{◌≡◌, ◌≤◌}
use Rattle.patricia_walks.specs.Internal.Comparisons.{IsComparison, is_same_left, steps_left}
use Rattle.patricia_walks.proofs.equality.Comparison.finish.Given as goal

abbrev pub invariant-loop-id : goal.invariant-loop-id
invariant-loop-id g l = record {
  comparison : IsComparison l.self;
  same : is_same_left g.V.PartialEq.eq l.self ≡ is_same_left g.V.PartialEq.eq l.initial.self;
  fewer : steps_left l.self ≤ steps_left l.initial.self;
}

abbrev pub decreases-loop-id : goal.decreases-loop-id
decreases-loop-id g l = steps_left l.self
