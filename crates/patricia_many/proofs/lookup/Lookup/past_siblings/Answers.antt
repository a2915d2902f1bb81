use Rattle.std.proofs.Common.{arith}
use Rattle.patricia_many.proofs.lookup.Lookup.past_siblings.Goals as goal

pub returns-else-self-b : goal.returns-else-self-b
returns-else-self-b g c = record { forward = omega arith; passes = λ i from to. absurd (omega (arith, from, to)) }
