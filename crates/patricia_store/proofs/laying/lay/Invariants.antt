use Rattle.std.proofs.Common.{◌≡◌, ◌+◌, ◌-◌, ◌≤◌, length, drop, vec_len, vec_capacity}
use Rattle.patricia_store.specs.Internal.Stores.{spans_room}
use Rattle.patricia_store.proofs.LayLemmas.{Laid}
use Rattle.patricia_store.proofs.laying.lay.Given as goal

-- the labels so far are laid, and there is room for the others
abbrev pub invariant-loop-id : goal.invariant-loop-id
invariant-loop-id g l = record {
  laid : Laid l.fn.heads.items l.fn.bodies.items l.labels.items l.id l.heads.items l.bodies.items l.laid.items;
  room : spans_room l.labels.items (drop l.id l.fn.bodies.items) ≤ l.laid.room;
  left : l.fn.laid.room + spans_room l.labels.items (drop l.id l.fn.bodies.items)
      ≤ l.laid.room + spans_room l.labels.items l.fn.bodies.items;
  length : length l.laid.items + spans_room l.labels.items (drop l.id l.fn.bodies.items)
      ≡ length l.fn.laid.items + spans_room l.labels.items l.fn.bodies.items;
  within : l.id ≤ vec_len l.heads;
  heads_capacity : vec_capacity l.heads ≡ vec_capacity l.fn.heads;
  bodies_capacity : vec_capacity l.bodies ≡ vec_capacity l.fn.bodies;
}

abbrev pub decreases-loop-id : goal.decreases-loop-id
decreases-loop-id g l = vec_len l.heads - l.id
