use Rattle.std.proofs.Common.{◌≡◌, ◌++◌, length}
use Rattle.std.specs.Prelude.{map as list_map}
use Rattle.std.specs.FinMap as map
use Rattle.patricia_tree.specs.Prefixes.{under}
use Rattle.prefixes_core.proofs.completing.first_completions.Given as goal

-- the entries so far and those that are left are all of the prefix
abbrev pub invariant-loop : goal.invariant-loop
invariant-loop g l = record {
  joined : list_map (λ entry. (g.Q.Owned.Bytes.key entry.0, entry.1.now)) l.first.items ++ l.left
      ≡ under (g.Q.BorrowedBytes.key l.fn.prefix) (map.entries l.entries);
  counted : length l.first.items ≡ l.counter;
}
