use Rattle.std.proofs.Common.{◌≡◌, drop, map}
use Rattle.serde_json.specs.View.{view, items_of}
use Rattle.serde_json.specs.Written.{items_have_float}
use Rattle.patricia_json.proofs.json.any_holds_float.Given as goal

abbrev pub invariant-loop-value : goal.invariant-loop-value
invariant-loop-value l = items_have_float (items_of (map view l.values)) ≡ items_have_float (items_of (map view (drop l.value-index l.values)))
