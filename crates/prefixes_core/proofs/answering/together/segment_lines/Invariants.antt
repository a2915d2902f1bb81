use Rattle.std.proofs.Common.{take, map as list_map}
use Rattle.prefixes_core.specs.Internal.Together.{AnswersTogether}
use Rattle.prefixes_core.specs.declared.answering.Question.TheVariants as Questions
use Rattle.prefixes_core.proofs.answering.together.segment_lines.Given as goal

-- the lines so far are answered
abbrev pub invariant-loop-i : goal.invariant-loop-i
invariant-loop-i l =
    AnswersTogether l.style (Questions.Segment l.words)
    (list_map (λ line. line.now) (take l.i l.lines)) l.fn.out.items l.out.items l.is_found
