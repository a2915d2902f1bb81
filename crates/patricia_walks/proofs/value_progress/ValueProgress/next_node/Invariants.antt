use Rattle.std.proofs.Common.{◌≡◌}
use Rattle.patricia_walks.specs.Internal.ValuePositions.{IsValuePosition, place_of, values_left}
use Rattle.patricia_walks.specs.Internal.ValuePositions.{value_steps_left}
use Rattle.patricia_walks.proofs.value_progress.ValueProgress.next_node.Given as goal

abbrev pub invariant-loop-id : goal.invariant-loop-id
invariant-loop-id g l = record {
  position : IsValuePosition (place_of l.nodes.items l.self);
  same : values_left (place_of l.nodes.items l.self)
      ≡ values_left (place_of l.nodes.items l.initial.self);
}

abbrev pub decreases-loop-id : goal.decreases-loop-id
decreases-loop-id g l = value_steps_left (place_of l.nodes.items l.self)
