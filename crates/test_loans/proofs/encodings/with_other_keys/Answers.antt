use Rattle.std.proofs.Common.{sym, ◌∙◌}
use Rattle.std.proofs.lemmas.Result.{IfOk-weaker}
use Rattle.test_loans.proofs.KeyListLemmas.{two_are_not_one}
use Rattle.test_loans.proofs.encodings.with_other_keys.Goals as goal

pub returns : goal.returns
returns c = IfOk-weaker c.encode_both.result _ _ (λ both same equal. two_are_not_one (sym c.in_ok-first.ensures ∙ same.0 equal ∙ c.in_ok-second.ensures)) c.encode_both.ensures
