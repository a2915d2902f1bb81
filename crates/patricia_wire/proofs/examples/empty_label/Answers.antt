use Rattle.std.proofs.Common.{[], false, refl}
use Rattle.patricia_wire.specs.Records.{Record}
use Rattle.patricia_wire.specs.Internal.Readings.{empty_label}
use Rattle.patricia_wire.proofs.TestedReadings.{first_below}
use Rattle.patricia_wire.proofs.examples.empty_label.Goals as goal

abbrev child : Record
child = record { level = 1; label = []; value = false; child = false; sibling = false }

pub returns : goal.returns
returns c = first_below 0 child [] empty_label refl (λ none. cc, refl) refl
