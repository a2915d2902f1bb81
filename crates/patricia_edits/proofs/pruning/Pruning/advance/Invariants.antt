use Rattle.std.proofs.Common.{ℕ, List}
use Rattle.patricia_edits.specs.Internal.Prunings.{HasLeft, steps_left}
use Rattle.patricia_edits.proofs.pruning.Pruning.advance.Given as goal

abbrev pub invariant-loop-id : goal.invariant-loop-id
invariant-loop-id g l = record {
  goes : (left : List (List ℕ × g.row.V.Denot)) → HasLeft l.arena l.initial.self left → HasLeft l.arena l.self left;
}

abbrev pub decreases-loop-id : goal.decreases-loop-id
decreases-loop-id g l = steps_left l.arena l.self
