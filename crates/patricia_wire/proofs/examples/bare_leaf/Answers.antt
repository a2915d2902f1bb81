use Rattle.std.proofs.Common.{[], ◌∷◌, false, refl}
use Rattle.patricia_wire.specs.Records.{Record}
use Rattle.patricia_wire.specs.Internal.Readings.{no_value_no_child}
use Rattle.patricia_wire.proofs.TestedReadings.{first_below}
use Rattle.patricia_wire.proofs.examples.bare_leaf.Goals as goal

abbrev child : Record
child = record { level = 1; label = 97 ∷ []; value = false; child = false; sibling = false }

pub returns : goal.returns
returns c = first_below 0 child [] no_value_no_child refl (λ none. cc, refl, refl) refl
