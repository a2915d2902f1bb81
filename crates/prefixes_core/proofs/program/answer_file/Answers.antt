use Rattle.std.proofs.Common.{inr}
use Rattle.prefixes_core.proofs.RunLemmas.{unread_stops}
use Rattle.prefixes_core.proofs.program.answer_file.Goals as goal

pub returns-in-Err-clause-stopped : goal.returns-in-Err-clause-stopped
returns-in-Err-clause-stopped g c =
    unread_stops c.args.asked.now.style c.args.asked.now.format c.args.question.now _
    (g.W.Write.contents c.args.output.now) c.input_failure.result (inr c.input_failure.ensures)
