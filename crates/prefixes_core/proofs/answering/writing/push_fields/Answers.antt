use Rattle.prefixes_core.proofs.AnswerLemmas.{line_ended}
use Rattle.prefixes_core.proofs.answering.writing.push_fields.Goals as goal

pub returns : goal.returns
returns g c =
    line_ended g.Q.BorrowedBytes.key c.args.fields.now c.args.end c.args.out.now.items
    c.push_joined.new.out.items c.push.new.self.items c.in_ok-push_joined.ensures
    c.in_ok-push.ensures.items
