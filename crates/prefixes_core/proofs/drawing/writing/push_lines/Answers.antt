use Rattle.std.proofs.Common.{◌++◌, ap, ◌∙◌, map as list_map}
use Rattle.prefixes_core.specs.Drawings.{node_text}
use Rattle.prefixes_core.proofs.DrawingLemmas.{way_more, lines_more}
use Rattle.prefixes_core.proofs.drawing.writing.push_lines.Goals as goal

pub loop-node-preserved : goal.loop-node-preserved
loop-node-preserved c =
    lines_more (λ node. (node.level, (node.label, node.is_name))) c.args.nodes.now
    c.loop-node.node-index c.node-item.result c.loop-node-test.true c.node-item.is (node_text c.args.as_json) _ _ _
    c.loop-node.out.items c.push_node.new.out.items
    (way_more (λ label. label.now) c.loop-node.way.items c.truncate.new.self.items
    c.push.new.self.items c.from.result c.node-item.result.level c.as_bytes.result
    c.node-item.result.label c.from.ensures c.truncate.ensures.items c.in_ok-push.ensures.items
    c.as_bytes.ensures)
    (c.in_ok-push_node.ensures
    ∙ ap (λ way. c.loop-node.out.items ++ node_text c.args.as_json (list_map (λ label. label.now) way)
    (c.node-item.result.level, (c.node-item.result.label, c.node-item.result.is_name)))
    c.deref.ensures.value)
    c.loop-node.invariant
