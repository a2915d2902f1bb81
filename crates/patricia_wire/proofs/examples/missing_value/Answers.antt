use Rattle.std.proofs.Common.{[], ◌∷◌, true, false, refl}
use Rattle.patricia_wire.specs.Records.{Record}
use Rattle.patricia_wire.specs.Internal.Readings.{too_few_values}
use Rattle.patricia_wire.proofs.TestedReadings.{first_below}
use Rattle.patricia_wire.proofs.examples.missing_value.Goals as goal

abbrev child : Record
child = record { level = 1; label = 97 ∷ []; value = true; child = false; sibling = false }

pub returns : goal.returns
returns c = first_below 0 child [] too_few_values refl (refl, refl) refl
