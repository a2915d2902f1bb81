use Rattle.std.proofs.Common.{◌-◌, ◌^◌}
use Rattle.std.specs.Io.Buffered.{reader_remaining}
use Rattle.prefixes_core.proofs.TurnLemmas.{IsAnsweredTo}
use Rattle.prefixes_core.proofs.program.answer_each.Given as goal

-- the lines so far are answered, and the reader has the others
abbrev pub invariant-loop-number : goal.invariant-loop-number
invariant-loop-number g l =
    IsAnsweredTo l.asked.style l.asked.format l.fn.question
    (reader_remaining g.F.Read.remaining l.fn.reader) (g.W.Write.contents l.fn.output)
    (reader_remaining g.F.Read.remaining l.reader) (g.W.Write.contents l.output) l.question
    l.is_found l.out.items l.number

-- lines have higher numbers than those before them
abbrev pub decreases-loop-number : goal.decreases-loop-number
decreases-loop-number g l = 2 ^ 64 - l.number
