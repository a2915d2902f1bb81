use Rattle.std.proofs.Common.{◌≡◌, ◌++◌, [], drop, map as list_map}
use Rattle.prefixes_core.specs.Drawings.{node_lines, node_text}
use Rattle.prefixes_core.proofs.drawing.writing.push_lines.Given as goal

-- what is written, and then the lines of the nodes that are left
abbrev pub invariant-loop-node : goal.invariant-loop-node
invariant-loop-node l =
    l.out.items ++ node_lines (node_text l.as_json) (list_map (λ label. label.now) l.way.items)
    (list_map (λ node. (node.level, (node.label, node.is_name))) (drop l.node-index l.nodes))
    ≡ l.fn.out.items ++ node_lines (node_text l.as_json) []
    (list_map (λ node. (node.level, (node.label, node.is_name))) l.nodes)
