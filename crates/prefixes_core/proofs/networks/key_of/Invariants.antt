use Rattle.std.proofs.Common.{◌≡◌, ◌∷◌, take}
use Rattle.std.specs.List.{flat_map}
use Rattle.prefixes_core.specs.Networks.{bits_of}
use Rattle.prefixes_core.proofs.networks.key_of.Given as goal

-- the bits of the bytes so far
abbrev pub invariant-loop-octet : goal.invariant-loop-octet
invariant-loop-octet l =
    l.key.items ≡ l.version ∷ flat_map bits_of (take l.octet-index l.octets)
