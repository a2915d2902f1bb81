use Rattle.std.proofs.Common.{◌≡◌, take, map}
use Rattle.serde_json.specs.Data.{unsigned, number}
use Rattle.serde_json.specs.View.{view}
use Rattle.patricia_json.proofs.json.numbers_from.Given as goal

abbrev pub invariant-loop-b : goal.invariant-loop-b
invariant-loop-b l = map view l.numbers.items ≡ map (λ b. number (unsigned b)) (take l.b-index l.bytes)
