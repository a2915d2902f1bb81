use Rattle.std.proofs.Common.{◌≡◌, ◌++◌, drop, string_bytes}
use Rattle.std.specs.List.{flat_map}
use Rattle.prefixes_core.specs.Answers.{entry_line}
use Rattle.prefixes_core.proofs.answering.writing.push_entries.Given as goal

-- what is written, and then the lines of the entries that are left
abbrev pub invariant-loop-name : goal.invariant-loop-name
invariant-loop-name l =
    l.out.items ++ flat_map
    (λ entry. entry_line l.end l.root (string_bytes entry.0, entry.1.now))
    (drop l.name-index l.found)
    ≡ l.fn.out.items ++ flat_map
    (λ entry. entry_line l.end l.root (string_bytes entry.0, entry.1.now)) l.found
