use Rattle.std.proofs.Common.{◌≡◌, ◌+◌, length}
use Rattle.std.specs.FinMap as map
use Rattle.patricia_core.specs.Prefixes.{under}
use Rattle.patricia_tree.proofs.map.GenericPatriciaMap.count_prefix.Given as goal

abbrev pub invariant-loop : goal.invariant-loop
invariant-loop g l = record {
  counted : l.count ≡ l.counter;
  left : l.count + length l.cursor.left ≡ length (under (g.Q.BorrowedBytes.key l.fn.prefix) (map.entries l.fn.self));
}
