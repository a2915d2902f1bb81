use Rattle.std.proofs.Common.{◌≡◌, ◌+◌, ◌-◌, ◌≤◌, drop, vec_len}
use Rattle.patricia_store.specs.Internal.Stores.{spans_room}
use Rattle.patricia_store.proofs.laying.needed_bytes.Given as goal

-- with the bytes of the labels that are left it is the whole
abbrev pub invariant-loop-id : goal.invariant-loop-id
invariant-loop-id g l = record {
  whole : l.total + spans_room l.labels.items (drop l.id l.bodies.items) ≡ spans_room l.labels.items l.bodies.items;
  few : l.total ≤ l.limit;
  within : l.id ≤ vec_len l.bodies;
}

abbrev pub decreases-loop-id : goal.decreases-loop-id
decreases-loop-id g l = vec_len l.bodies - l.id
