use Rattle.std.proofs.Common.{◌≡◌}
use Rattle.patricia_model.specs.Internal.WalkStates.{steps_in}
use Rattle.patricia_walks.specs.Internal.Descents.{IsDescent, along_left, siblings_left}
use Rattle.patricia_walks.proofs.along.Descent.seek.Given as goal

abbrev pub invariant-loop-value : goal.invariant-loop-value
invariant-loop-value g l = record {
  descent : IsDescent g.K.Bytes.item l.fn.key l.self;
  same : along_left l.fn.key l.self ≡ along_left l.fn.key l.initial.self;
}

abbrev pub decreases-loop-value : goal.decreases-loop-value
decreases-loop-value g l = steps_in (siblings_left l.self)
