use Rattle.std.proofs.Common.{subst}
use Rattle.std.specs.Prelude.{IfOk, map as list_map}
use Rattle.patricia_tree.specs.Siblings.{keys_of}
use Rattle.patricia_tree.specs.TextKind.{IsTextItem}
use Rattle.patricia_tree.specs.Writings.{TooDeep}
use Rattle.prefixes_core.specs.Trees.{AreNodes}
use Rattle.prefixes_core.proofs.drawing.draw.Goals as goal

pub returns-clause-too_deep : goal.returns-clause-too_deep
returns-clause-too_deep g c = λ is.
    subst (λ e. TooDeep IsTextItem 2 (keys_of e)) c.in_ok-names.ensures.taken
    (c.nodes_for.ensures.too_deep is)

pub returns-clause-ok : goal.returns-clause-ok
returns-clause-ok g c =
    subst (λ e. IfOk c.nodes_for.result (λ nodes. AreNodes e
    (list_map (λ node. (node.level, (node.label, node.is_name))) nodes.items)))
    c.in_ok-names.ensures.taken c.nodes_for.ensures.ok
