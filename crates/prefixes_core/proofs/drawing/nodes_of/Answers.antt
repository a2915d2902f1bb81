use Rattle.std.proofs.Common.{ℕ, List, ap}
use Rattle.prefixes_core.proofs.NearLemmas.{map_pushed}
use Rattle.prefixes_core.proofs.RecordLemmas.{read_more, all_read}
use Rattle.prefixes_core.proofs.drawing.nodes_of.Goals as goal

pub loop-record-preserved : goal.loop-record-preserved
loop-record-preserved c =
    let record' = c.in-Some.record in
    read_more c.args.tree.now c.loop-record.rest.now _ c.loop-record.invariant record'.level
    record'.label.now record'.is_name c.in-Some.later.now _
    (map_pushed _ c.loop-record.nodes.items _ _ _
    (ap (λ (l : List ℕ). (record'.level, (l, record'.is_name))) c.in_ok-new.ensures.bytes)
    c.in_ok-push.ensures.items) c.in-Some.ensures.some

pub returns : goal.returns
returns c =
    all_read c.args.tree.now c.loop-record.rest.now _ c.loop-record.invariant
    c.in_default.ensures.none
