use Rattle.std.proofs.Common.{inl}
use Rattle.prefixes_core.specs.declared.failure.Failure.TheVariants as Failures
use Rattle.prefixes_core.proofs.RunLemmas.{unread_stops}
use Rattle.prefixes_core.proofs.program.answer_standard.Goals as goal

pub returns-in-None-clause-stopped : goal.returns-in-None-clause-stopped
returns-in-None-clause-stopped g c =
    unread_stops c.args.asked.now.style c.args.asked.now.format c.args.question.now _
    (g.W.Write.contents c.args.output.now) Failures.ReadTwice (inl tt)
