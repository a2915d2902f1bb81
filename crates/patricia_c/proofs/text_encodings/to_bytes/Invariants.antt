use Rattle.std.proofs.Common.{◌≡◌, ◌++◌}
use Rattle.std.specs.FinMap as map
use Rattle.patricia_c.proofs.text_encodings.to_bytes.Given as goal

-- the entries so far and those that are left are those of the map
abbrev pub invariant-loop-entry : goal.invariant-loop-entry
invariant-loop-entry l = map.entries l.bytes ++ l.entry-iterator ≡ map.entries l.fn.from
