use Rattle.std.proofs.Common.{◌≡◌, ◌≤◌, ◌++◌, length}
use Rattle.std.specs.Prelude.{map as list_map}
use Rattle.std.specs.List.{concat}
use Rattle.prefixes_core.specs.Packings.{counted}
use Rattle.prefixes_core.proofs.packing.split_values.Given as goal

-- the values so far, and what is left
abbrev pub invariant-loop-rest : goal.invariant-loop-rest
invariant-loop-rest l = record {
  joined : concat (list_map counted l.values.items) ++ l.rest ≡ l.bytes;
  short : length l.rest ≤ length l.bytes;
}

-- less is left
abbrev pub decreases-loop-rest : goal.decreases-loop-rest
decreases-loop-rest l = length l.rest
