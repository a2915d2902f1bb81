use Rattle.prefixes_core.proofs.TogetherLemmas.{front_left}
use Rattle.prefixes_core.proofs.answering.together.front.Goals as goal

pub returns-in-Err-clause-answered : goal.returns-in-Err-clause-answered
returns-in-Err-clause-answered g c =
    front_left c.args.style c.args.format (g.A.AnswersLines.question c.args.asked.now)
    c.args.bytes.now c.args.out.now.items c.try_front.new.out.items c.in-Err.ensures.kept
