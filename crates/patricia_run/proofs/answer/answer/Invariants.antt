use Rattle.patricia_run.proofs.Turns.{Completes}
use Rattle.patricia_run.proofs.answer.answer.Given as goal

-- what is written, and then what may be written for the lines that are left, answers the input
abbrev pub invariant-loop-line : goal.invariant-loop-line
invariant-loop-line g l = Completes g.K.Bytes.item g.K.LineKeys.key_format g.K.Bytes.key l.fn.input l.bench l.line-iterator l.out.items
