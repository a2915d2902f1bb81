use Rattle.std.proofs.Common.{length}
use Rattle.std.specs.Prelude.{map as list_map}
use Rattle.prefixes_core.proofs.RecordLemmas.{AreReading}
use Rattle.prefixes_core.proofs.drawing.nodes_of.Given as goal

-- the records before the rest are read
abbrev pub invariant-loop-record : goal.invariant-loop-record
invariant-loop-record l =
    AreReading l.tree l.rest (list_map (λ node. (node.level, (node.label, node.is_name))) l.nodes.items)

-- less is left
abbrev pub decreases-loop-record : goal.decreases-loop-record
decreases-loop-record l = length l.rest
