use Rattle.std.proofs.Common.{◌≡◌, ◌++◌, drop}
use Rattle.prefixes_core.specs.Answers.{indent}
use Rattle.prefixes_core.proofs.answering.writing.push_indent.Given as goal

-- what is written, and then the spaces for the dots that are left
abbrev pub invariant-loop-b : goal.invariant-loop-b
invariant-loop-b l =
    l.out.items ++ indent (drop l.b-index l.name) ≡ l.fn.out.items ++ indent l.name
