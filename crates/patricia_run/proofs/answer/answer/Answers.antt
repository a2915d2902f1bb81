use Rattle.std.proofs.Common.{rules}
use Rattle.patricia_run.proofs.Turns.{completes_first, completes_more, completes_last}
use Rattle.patricia_run.proofs.answer.answer.Goals as goal

pub loop-line-init : goal.loop-line-init
loop-line-init g c =
    completes_first g.K.Bytes.item g.K.LineKeys.key_format g.K.Bytes.key
    c.args.input.now c.new-bench.result c.into_iter-line-iterator.result c.new-out.result.items
    c.new-bench.ensures (search rules) (search rules)

pub loop-line-preserved : goal.loop-line-preserved
loop-line-preserved g c =
    let one = c.in_ok-answer_line.ensures in
    completes_more g.K.Bytes.item g.K.LineKeys.key_format g.K.Bytes.key c.args.input.now
    c.loop-line.bench c.answer_line.new.bench c.in-Some.line.now c.loop-line.line-iterator
    c.next.new.self c.loop-line.out.items one.0 c.answer_line.new.out.items
    c.in-Some.ensures.steps one.1 one.2 c.loop-line.invariant

pub returns : goal.returns
returns g c =
    completes_last g.K.Bytes.item g.K.LineKeys.key_format g.K.Bytes.key c.args.input.now
    c.loop-line.bench c.loop-line.line-iterator c.loop-line.out.items c.in-None.ensures.steps.0
    c.loop-line.invariant
