use Rattle.std.proofs.Common.{◌≡◌, ◌≤◌, length, take, vec_capacity}
use Rattle.patricia_store.proofs.store.copies.clone_bodies.Given as goal

-- the bodies before this one are copied
abbrev pub invariant-loop-i : goal.invariant-loop-i
invariant-loop-i g l = record {
  copied : l.to.items ≡ take l.i l.from.items;
  room : length l.from.items ≤ vec_capacity l.to;
}
