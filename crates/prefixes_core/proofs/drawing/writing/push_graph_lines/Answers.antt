use Rattle.std.proofs.Common.{◌++◌, ap, ◌∙◌}
use Rattle.prefixes_core.specs.Drawings.{graph_line}
use Rattle.prefixes_core.proofs.DrawingLemmas.{graph_more}
use Rattle.prefixes_core.proofs.drawing.writing.push_graph_lines.Goals as goal

pub loop-place-preserved : goal.loop-place-preserved
loop-place-preserved c =
    graph_more (λ node. (node.level, (node.label, node.is_name))) c.args.nodes.now c.loop-place.place
    c.index-nodes-place.result c.loop-place-test.true c.index-nodes-place.is
    c.loop-place.parents.items c.truncate.new.self.items c.push.new.self.items c.from.result _
    c.loop-place.out.items c.push_graph_line.new.out.items c.from.ensures c.truncate.ensures.items
    c.in_ok-push.ensures.items
    (c.in_ok-push_graph_line.ensures
    ∙ ap (λ parents. c.loop-place.out.items ++ graph_line parents c.loop-place.place (
      c.index-nodes-place.result.level,
      (c.index-nodes-place.result.label, c.index-nodes-place.result.is_name),
    ))
    c.deref.ensures.value)
    c.loop-place.invariant
