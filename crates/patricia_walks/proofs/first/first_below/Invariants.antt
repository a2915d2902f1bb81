use Rattle.std.proofs.Common.{◌≡◌, Some}
use Rattle.std.specs.Prelude.{slice_get}
use Rattle.patricia_keys.specs.Keys.{IsValid}
use Rattle.patricia_model.specs.Internal.WalkStates.{steps_in}
use Rattle.patricia_model.specs.Siblings.{prefixed, entries}
use Rattle.patricia_walks.specs.Internal.Lowers.{AreSiblingsAt}
use Rattle.patricia_nodes.specs.Internal.Plans.{siblings_at}
use Rattle.patricia_walks.proofs.first.first_below.Given as goal

abbrev pub invariant-loop-value : goal.invariant-loop-value
invariant-loop-value g l = record {
  siblings : AreSiblingsAt g.K.Bytes.item l.arena.nodes.items (Some l.id);
  valid : IsValid g.K.Bytes.item l.path.items;
  same : slice_get (prefixed l.path.items (entries (siblings_at l.arena.nodes.items (Some l.id)))) 0
      ≡ slice_get (prefixed l.initial.path.items (entries (siblings_at l.arena.nodes.items (Some l.fn.top)))) 0;
}

abbrev pub decreases-loop-value : goal.decreases-loop-value
decreases-loop-value g l = steps_in (siblings_at l.arena.nodes.items (Some l.id))
