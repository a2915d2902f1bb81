use Rattle.std.proofs.Common.{refl}
use Rattle.patricia_walks.proofs.ComparisonLemmas.{compares_back}
use Rattle.patricia_walks.proofs.equality.Comparison.back.Goals as goal

pub returns-clause-step : goal.returns-clause-step
returns-clause-step g c =
    λ _. compares_back g.V.PartialEq.eq c.args.self.now c.requires.comparison _ c.in-Some.siblings
    c.requires.over c.in-Some.ensures.items refl refl refl
