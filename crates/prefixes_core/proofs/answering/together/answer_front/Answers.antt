use Rattle.std.proofs.Common.{refl}
use Rattle.prefixes_core.proofs.TogetherLemmas.{front_left}
use Rattle.prefixes_core.proofs.answering.together.answer_front.Goals as goal

pub returns-in_default-clause-answered : goal.returns-in_default-clause-answered
returns-in_default-clause-answered c =
    front_left c.args.style c.args.format c.args.question.now c.args.bytes.now c.args.out.now.items
    c.args.out.now.items refl
