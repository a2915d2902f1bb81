use Rattle.std.proofs.Common.{length}
use Rattle.prefixes_core.proofs.RecordLemmas.{IsMeasuring}
use Rattle.prefixes_core.proofs.measuring.measure_tree.Given as goal

-- what is counted of the records before the rest
abbrev pub invariant-loop-record : goal.invariant-loop-record
invariant-loop-record l =
    IsMeasuring l.tree l.rest l.measures.nodes l.measures.label_bytes l.measures.depth

-- less is left
abbrev pub decreases-loop-record : goal.decreases-loop-record
decreases-loop-record l = length l.rest
