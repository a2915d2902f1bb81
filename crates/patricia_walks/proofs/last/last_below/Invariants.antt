use Rattle.std.proofs.Common.{◌≡◌, Some, None}
use Rattle.std.specs.List.{last_or}
use Rattle.patricia_keys.specs.Keys.{IsValid}
use Rattle.patricia_walks.specs.Internal.Lowers.{AreSiblingsAt}
use Rattle.patricia_nodes.specs.Internal.Plans.{siblings_at}
use Rattle.patricia_nodes.specs.Internal.Places.{entries_below}
use Rattle.patricia_model.specs.Internal.WalkStates.{steps_in}
use Rattle.patricia_walks.proofs.last.last_below.Given as goal

abbrev pub invariant-loop-child : goal.invariant-loop-child
invariant-loop-child g l = record {
  siblings : AreSiblingsAt g.K.Bytes.item l.arena.nodes.items (Some l.id);
  valid : IsValid g.K.Bytes.item l.path.items;
  same : last_or None (entries_below l.path.items (siblings_at l.arena.nodes.items (Some l.id)))
      ≡ last_or None (entries_below l.initial.path.items (siblings_at l.arena.nodes.items (Some l.fn.top)));
}

abbrev pub decreases-loop-child : goal.decreases-loop-child
decreases-loop-child g l = steps_in (siblings_at l.arena.nodes.items (Some l.id))
