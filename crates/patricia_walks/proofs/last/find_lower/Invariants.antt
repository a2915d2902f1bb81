use Rattle.std.proofs.Common.{◌≡◌, ◌++◌, None}
use Rattle.std.specs.List.{last_or}
use Rattle.std.specs.Option.{option_copied}
use Rattle.patricia_model.specs.Internal.WalkStates.{steps_in}
use Rattle.patricia_model.specs.Ranges.{before}
use Rattle.patricia_model.specs.Siblings.{own}
use Rattle.patricia_nodes.specs.Internal.Plans.{entries_of}
use Rattle.patricia_walks.specs.Internal.Lowers.{IsLowerDescent, last_lower, siblings_ahead}
use Rattle.patricia_walks.proofs.last.find_lower.Given as goal

abbrev pub invariant-loop-id : goal.invariant-loop-id
invariant-loop-id g l = record {
  descent : IsLowerDescent g.K.Bytes.item l.fn.key l.descent;
  same : last_lower l.fn.key l.descent
      ≡ last_or None (before l.fn.key (own (option_copied l.fn.pending) ++ entries_of l.fn.arena));
  arena : l.descent.arena.now ≡ l.fn.arena;
}

abbrev pub decreases-loop-id : goal.decreases-loop-id
decreases-loop-id g l = steps_in (siblings_ahead l.descent)
