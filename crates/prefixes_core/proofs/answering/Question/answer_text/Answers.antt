use Rattle.std.proofs.Common.{refl}
use Rattle.std.proofs.lemmas.Result.{on_ok_weaker}
use Rattle.prefixes_core.proofs.answering.Question.answer_text.Goals as goal

pub returns-in-DropTree-clause-left : goal.returns-in-DropTree-clause-left
returns-in-DropTree-clause-left c =
    rw c.in-DropTree.is (on_ok_weaker c.drop_tree.result
    (λ dropped. (c.drop_tree.new.list, refl, dropped)) c.drop_tree.ensures.dropped)
