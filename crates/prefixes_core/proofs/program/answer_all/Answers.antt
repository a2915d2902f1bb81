use Rattle.prefixes_core.proofs.ResultLemmas.{if_err_on, if_ok_on}
use Rattle.prefixes_core.proofs.RunLemmas.{lines_answered, lines_stopped}
use Rattle.prefixes_core.proofs.program.answer_all.Goals as goal

pub returns-clause-answered : goal.returns-clause-answered
returns-clause-answered g c = if_ok_on _ _ c.answer_asked-found.result
    c.answer_asked-found.ensures.answered
    (lines_answered g.R.Opens.content g.I.Read.remaining c.args.inputs.now c.question.new.inputs
    c.in_ok-question.ensures.after c.args.name.now c.args.matches.now c.in_ok-question.question
    c.form_of-asked.result.style c.form_of-asked.result.format c.form_of-asked.result.path.now
    (g.W.Write.contents c.args.output.now) (g.W.Write.contents c.answer_asked-found.new.output)
    c.in_ok-question.ensures.asks c.form_of-asked.ensures.path c.form_of-asked.ensures.format
    c.form_of-asked.ensures.style c.answer_asked-found.new.question)

pub returns-clause-stopped : goal.returns-clause-stopped
returns-clause-stopped g c = if_err_on _ _ c.answer_asked-found.result
    c.answer_asked-found.ensures.stopped
    (lines_stopped g.R.Opens.content g.I.Read.remaining c.args.inputs.now c.question.new.inputs
    c.in_ok-question.ensures.after c.args.name.now c.args.matches.now c.in_ok-question.question
    c.form_of-asked.result.style c.form_of-asked.result.format c.form_of-asked.result.path.now
    (g.W.Write.contents c.args.output.now) (g.W.Write.contents c.answer_asked-found.new.output)
    c.in_ok-question.ensures.asks c.form_of-asked.ensures.path c.form_of-asked.ensures.format
    c.form_of-asked.ensures.style)
