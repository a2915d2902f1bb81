use Rattle.std.proofs.Common.{[], ◌∷◌, true, false, refl}
use Rattle.patricia_wire.specs.Records.{Record}
use Rattle.patricia_wire.specs.Internal.Readings.{level}
use Rattle.patricia_wire.proofs.TestedReadings.{first_below}
use Rattle.patricia_wire.proofs.examples.skipped_level.Goals as goal

abbrev child : Record
child = record { level = 2; label = 97 ∷ []; value = true; child = false; sibling = false }

pub returns : goal.returns
returns c = first_below 1 child [] level refl (λ same. cc) refl
