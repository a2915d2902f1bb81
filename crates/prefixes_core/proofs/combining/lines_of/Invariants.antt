use Rattle.std.specs.FinMap as map
use Rattle.prefixes_core.proofs.LineLemmas.{AreWritten}
use Rattle.prefixes_core.proofs.combining.lines_of.Given as goal

-- of the names that are not left, the lines are written
abbrev pub invariant-loop-name : goal.invariant-loop-name
invariant-loop-name l = AreWritten l.format (map.keys l.names) l.name-iterator l.lines.items
