use Rattle.std.proofs.lemmas.Result.{IfOk-weaker}
use Rattle.test_loans.proofs.CountLemmas.{keys_of_three}
use Rattle.test_loans.proofs.counts.baz_first.Goals as goal

pub returns : goal.returns
returns c = IfOk-weaker c.with-3.result _ _ (λ m e. keys_of_three _ _ _ _ _ _ _ _ _ m c.new.ensures c.in_ok-one.ensures c.in_ok-two.ensures e) c.with-3.ensures
