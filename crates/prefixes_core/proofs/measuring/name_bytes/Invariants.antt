use Rattle.std.specs.FinMap as map
use Rattle.prefixes_core.proofs.CountLemmas.{IsSumming}
use Rattle.prefixes_core.proofs.measuring.name_bytes.Given as goal

-- with the names that are left it is the sum of all
abbrev pub invariant-loop : goal.invariant-loop
invariant-loop g l = IsSumming (map.entries l.names) l.cursor l.bytes l.counter
