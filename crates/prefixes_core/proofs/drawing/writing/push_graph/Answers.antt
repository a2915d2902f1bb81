use Rattle.std.proofs.Common.{codes, [], map as list_map}
use Rattle.prefixes_core.specs.Drawings.{graph_lines}
use Rattle.prefixes_core.proofs.DrawingLemmas.{three_joined}
use Rattle.prefixes_core.proofs.drawing.writing.push_graph.Goals as goal

pub returns : goal.returns
returns c =
    three_joined (codes "digraph prefixes {\n    node [shape=box];\n")
    (graph_lines [] 0
    (list_map (λ node. (node.level, (node.label, node.is_name))) c.args.nodes.now))
    (codes "}\n") c.args.out.now.items c.extend_from_slice.new.self.items
    c.push_graph_lines.new.out.items c.extend_from_slice-2.new.self.items
    c.in_ok-extend_from_slice.ensures.items c.in_ok-push_graph_lines.ensures
    c.in_ok-extend_from_slice-2.ensures.items
