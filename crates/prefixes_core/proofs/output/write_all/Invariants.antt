use Rattle.prefixes_core.specs.Internal.Failures.{IsKept}
use Rattle.prefixes_core.proofs.output.write_all.Given as goal

-- what is left is what is not written
abbrev pub invariant-loop : goal.invariant-loop
invariant-loop g l =
    IsKept (g.W.Write.contents l.fn.output) (g.W.Write.contents l.output) l.bytes l.rest
