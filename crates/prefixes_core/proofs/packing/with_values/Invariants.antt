use Rattle.std.proofs.Common.{◌≡◌, ◌++◌}
use Rattle.std.specs.Prelude.{map as list_map}
use Rattle.std.specs.FinMap as map
use Rattle.std.specs.List.{concat}
use Rattle.prefixes_core.specs.Packings.{counted, packed}
use Rattle.prefixes_core.proofs.packing.with_values.Given as goal

-- what is written, and the values that are left
abbrev pub invariant-loop-value : goal.invariant-loop-value
invariant-loop-value l = l.out.items ++ concat (list_map counted l.value-iterator) ≡ packed l.tree
    (map.values l.list)
