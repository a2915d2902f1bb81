use Rattle.std.proofs.Common.{◌≡◌, ◌≢◌, [], length}
use Rattle.std.specs.FinMap as map
use Rattle.patricia_tree.specs.Bulk.{insert_all}
use Rattle.patricia_tree.proofs.set.GenericPatriciaSet.with_all.Given as goal

abbrev pub invariant-loop-cursor : goal.invariant-loop-cursor
invariant-loop-cursor g l = record {
  same : insert_all l.merger l.cursor.left ≡ insert_all l.fn.self (map.entries l.fn.other);
  some : l.cursor.left ≢ [] → map.entries l.fn.other ≢ [];
}

abbrev pub decreases-loop-cursor : goal.decreases-loop-cursor
decreases-loop-cursor g l = length l.cursor.left
