use Rattle.std.proofs.Common.{sym, ◌∙◌}
use Rattle.std.proofs.lemmas.Result.{IfOk-weaker}
use Rattle.test_loans.proofs.encodings.with_same_keys.Goals as goal

pub returns : goal.returns
returns c = IfOk-weaker c.encode_both.result _ _ (λ both same. same.1 (c.in_ok-first.ensures ∙ sym c.in_ok-second.ensures)) c.encode_both.ensures
