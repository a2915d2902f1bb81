use Rattle.std.proofs.Common.{◌≢◌, [], length}
use Rattle.std.specs.FinMap as map
use Rattle.patricia_tree.proofs.LongestLemmas.{IsMeasuring}
use Rattle.patricia_tree.proofs.map.GenericPatriciaMap.longest_key.Given as goal

abbrev pub invariant-loop-cursor : goal.invariant-loop-cursor
invariant-loop-cursor g l = record {
  measuring : IsMeasuring l.fn.self l.cursor.left l.longest;
  some : l.cursor.left ≢ [] → map.entries l.fn.self ≢ [];
}

abbrev pub decreases-loop-cursor : goal.decreases-loop-cursor
decreases-loop-cursor g l = length l.cursor.left
