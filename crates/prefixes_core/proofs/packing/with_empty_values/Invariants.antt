use Rattle.std.proofs.Common.{◌≡◌, []}
use Rattle.std.specs.Prelude.{replicate}
use Rattle.prefixes_core.specs.Packings.{packed}
use Rattle.prefixes_core.proofs.packing.with_empty_values.Given as goal

-- the tree bytes and so many values are written
abbrev pub invariant-loop : goal.invariant-loop
invariant-loop l = l.out.items ≡ packed l.tree (replicate l.counter [])
