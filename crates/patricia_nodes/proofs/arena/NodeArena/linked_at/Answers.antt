use Rattle.std.proofs.Common.{sym, ◌∙◌}
use Rattle.patricia_nodes.proofs.LinkRefLemmas.{root_head, child_head, sibling_head}
use Rattle.patricia_nodes.proofs.NodeVecLemmas.{node_there}
use Rattle.patricia_nodes.proofs.arena.NodeArena.linked_at.Goals as goal

pub child-requires : goal.child-requires
child-requires g c = rw c.in-Child.is at c.requires.within

pub sibling-requires : goal.sibling-requires
sibling-requires g c = rw c.in-Sibling.is at c.requires.within

pub returns-in-Root : goal.returns-in-Root
returns-in-Root g c frames focus link fills =
    root_head c.args.self.now c.requires.whole frames focus (sym c.in-Root.is ∙ link) fills

pub returns-in-Child : goal.returns-in-Child
returns-in-Child g c frames focus link fills =
    let within = rw c.in-Child.is at c.requires.within in
    let there = node_there c.args.self.now.nodes.items c.in-Child.id within in
    c.child.ensures.node there.0 there.1
    ∙ child_head c.args.self.now c.requires.whole c.in-Child.id frames focus (sym c.in-Child.is ∙ link) fills there.0 there.1

pub returns-in-Sibling : goal.returns-in-Sibling
returns-in-Sibling g c frames focus link fills =
    let within = rw c.in-Sibling.is at c.requires.within in
    let there = node_there c.args.self.now.nodes.items c.in-Sibling.id within in
    c.sibling.ensures.node there.0 there.1
    ∙ sibling_head c.args.self.now c.requires.whole c.in-Sibling.id _ frames focus (sym c.in-Sibling.is ∙ link) fills there.0 there.1
