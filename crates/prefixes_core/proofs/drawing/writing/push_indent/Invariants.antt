use Rattle.std.proofs.Common.{◌≡◌, ◌++◌, ◌*◌, replicate}
use Rattle.prefixes_core.proofs.drawing.writing.push_indent.Given as goal

-- two spaces for each level so far
abbrev pub invariant-loop : goal.invariant-loop
invariant-loop l = l.out.items ≡ l.fn.out.items ++ replicate (2 * l.counter) 32
