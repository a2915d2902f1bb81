use Rattle.std.proofs.Common.{ap}
use Rattle.patricia_model.specs.Siblings.{keys_of}
use Rattle.patricia_model.proofs.WalkLemmas.{map_filled}
use Rattle.patricia_walks.proofs.walk.Walk.next_key.Goals as goal

pub returns-in-Err : goal.returns-in-Err
returns-in-Err g c =
    let gives = rw c.in-Err.is at c.in_ok-key.ensures.steps in
    (map_filled _ _ gives.0, ap keys_of gives.1)
