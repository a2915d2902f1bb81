use Rattle.std.proofs.Common.{◌≡◌, ◌++◌, drop}
use Rattle.patricia_run.specs.Writing.{entry_lines}
use Rattle.patricia_run.proofs.writing.write_entries.Given as goal

-- what is written, and the lines of the entries that are left
abbrev pub invariant-loop-entry : goal.invariant-loop-entry
invariant-loop-entry g l = l.out.items ++ entry_lines g.Q.KeyText.key_format g.Q.Owned.Bytes.key
    (drop l.entry-index l.entries) ≡ l.fn.out.items ++ entry_lines g.Q.KeyText.key_format
    g.Q.Owned.Bytes.key l.entries
