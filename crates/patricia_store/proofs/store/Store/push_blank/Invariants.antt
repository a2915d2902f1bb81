use Rattle.std.proofs.Common.{◌≡◌, ◌+◌, ◌-◌, ◌≤◌, ◌++◌, length, replicate}
use Rattle.patricia_store.specs.Internal.Nodes.{blank}
use Rattle.patricia_store.proofs.store.Store.push_blank.Given as goal

-- so many are added, and there is room for the others
abbrev pub invariant-loop-added : goal.invariant-loop-added
invariant-loop-added g l = record {
  items : l.self.items ≡ l.fn.self.items ++ replicate l.added blank;
  few : l.added ≤ l.fn.count;
  room : length l.fn.self.items + l.fn.count ≤ l.self.capacity;
}

abbrev pub decreases-loop-added : goal.decreases-loop-added
decreases-loop-added g l = l.count - l.added
