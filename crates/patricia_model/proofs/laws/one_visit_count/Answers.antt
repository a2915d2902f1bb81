use Rattle.std.proofs.Common.{ap, sym, ◌∙◌, ◌+◌}
use Rattle.patricia_model.proofs.MemberLemmas.{same_length}
use Rattle.patricia_model.proofs.laws.one_visit_count.Goals as goal

pub returns : goal.returns
returns g c S k n m a b =
    let same = same_length a.visited b.visited a.once b.once (λ p. ((λ h. (b.exactly p).1 ((a.exactly p).0 h)), λ h. (a.exactly p).1 ((b.exactly p).0 h))) in
    a.is ∙ ap (λ x. 1 + x) same ∙ sym b.is
