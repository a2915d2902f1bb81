use Rattle.std.proofs.Common.{◌≡◌, ◌++◌, drop, flat_map}
use Rattle.std.specs.Int.{w16, to_be_bytes}
use Rattle.patricia_keys.proofs.keys.units.UnitKey.from_units.Given as goal

-- what is written, and the bytes of the units that are left
abbrev pub invariant-loop-unit : goal.invariant-loop-unit
invariant-loop-unit l = l.bytes.items ++ flat_map (to_be_bytes w16) (drop l.unit-index l.units) ≡ flat_map (to_be_bytes w16) l.units
