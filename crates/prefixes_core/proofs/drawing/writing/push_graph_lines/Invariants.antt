use Rattle.std.proofs.Common.{◌≡◌, ◌++◌, [], drop, map as list_map}
use Rattle.prefixes_core.specs.Drawings.{graph_lines}
use Rattle.prefixes_core.proofs.drawing.writing.push_graph_lines.Given as goal

-- what is written, and then the lines of the nodes that are left
abbrev pub invariant-loop-place : goal.invariant-loop-place
invariant-loop-place l =
    l.out.items ++ graph_lines l.parents.items l.place
    (list_map (λ node. (node.level, (node.label, node.is_name))) (drop l.place l.nodes))
    ≡ l.fn.out.items ++ graph_lines [] 0
    (list_map (λ node. (node.level, (node.label, node.is_name))) l.nodes)
