use Rattle.std.proofs.Common.{◌+◌, length, refl}
use Rattle.prefixes_core.proofs.RecordLemmas.{measured_more, all_measured}
use Rattle.prefixes_core.proofs.measuring.measure_tree.Goals as goal

pub loop-record-preserved : goal.loop-record-preserved
loop-record-preserved c =
    let counts = c.loop-record.measures in
    let record' = c.in-Some.record in
    measured_more c.args.tree.now c.loop-record.rest.now counts.nodes counts.label_bytes counts.depth
    c.loop-record.invariant record'.level record'.label.now record'.is_name c.in-Some.later.now
    (counts.nodes + 1) (counts.label_bytes + length record'.label.now) c.greater.result refl refl
    c.greater.ensures c.in-Some.ensures.some

pub returns : goal.returns
returns c =
    let counts = c.loop-record.measures in
    all_measured c.args.tree.now c.loop-record.rest.now counts.nodes counts.label_bytes counts.depth
    c.loop-record.invariant c.in_default.ensures.none
