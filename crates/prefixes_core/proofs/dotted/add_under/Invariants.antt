use Rattle.std.proofs.Common.{◌≡◌, ◌++◌}
use Rattle.std.specs.Prelude.{map as list_map, string_bytes}
use Rattle.std.specs.FinMap as map
use Rattle.patricia_tree.specs.Prefixes.{under}
use Rattle.prefixes_core.proofs.dotted.add_under.Given as goal

-- the entries so far and those that are left are those before and those of the prefix
abbrev pub invariant-loop-entry : goal.invariant-loop-entry
invariant-loop-entry g l =
    list_map (λ entry. (string_bytes entry.0, entry.1.now)) l.entries.items ++ l.entry-iterator
    ≡ list_map (λ entry. (string_bytes entry.0, entry.1.now)) l.fn.entries.items
    ++ under l.prefix (map.entries l.names)
