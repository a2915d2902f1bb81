use Rattle.std.proofs.Common.{length, ap, ◌∙◌, arith, length-set}
use Rattle.patricia_nodes.proofs.FreeLemmas.{lone_within}
use Rattle.patricia_nodes.proofs.MergeLemmas.{holds_free, lone_child, lone_apart, joined_kept, absorbs}
use Rattle.patricia_nodes.proofs.NodeVecLemmas.{node_there}
use Rattle.patricia_nodes.proofs.arena.NodeArena.merge_only_child.Goals as goal

pub child-child-requires : goal.child-child-requires
child-child-requires g c = (lone_within c.args.self.now c.args.upper c.args.lower c.requires.lone).1

pub replace_value-value-requires : goal.replace_value-value-requires
replace_value-value-requires g c = record { there = (lone_within c.args.self.now c.args.upper c.args.lower c.requires.lone).1 }

pub join_labels-old-requires-clause-upper : goal.join_labels-old-requires-clause-upper
join_labels-old-requires-clause-upper g c =
    let within = (lone_within c.args.self.now c.args.upper c.args.lower c.requires.lone).0 in
    let long = ap length c.replace_value-value.ensures.node.2 ∙ length-set c.args.self.now.nodes.items c.args.lower _ in
    omega (arith, within, long)

pub join_labels-old-requires-clause-lower : goal.join_labels-old-requires-clause-lower
join_labels-old-requires-clause-lower g c =
    let within = (lone_within c.args.self.now c.args.upper c.args.lower c.requires.lone).1 in
    let long = ap length c.replace_value-value.ensures.node.2 ∙ length-set c.args.self.now.nodes.items c.args.lower _ in
    omega (arith, within, long)

pub join_labels-old-requires-clause-link : goal.join_labels-old-requires-clause-link
join_labels-old-requires-clause-link g c =
    let within = (lone_within c.args.self.now c.args.upper c.args.lower c.requires.lone).1 in
    let n = node_there c.args.self.now.nodes.items c.args.lower within in
    let long = ap length c.replace_value-value.ensures.node.2 ∙ length-set c.args.self.now.nodes.items c.args.lower _ in
    rw (c.child-child.ensures.node n.0 n.1, long)
    (lone_child c.args.self.now c.args.upper c.args.lower n.0 c.requires.lone n.1)

pub join_labels-old-requires-clause-room : goal.join_labels-old-requires-clause-room
join_labels-old-requires-clause-room g c =
    let within = lone_within c.args.self.now c.args.upper c.args.lower c.requires.lone in
    let put = c.replace_value-value.ensures.node in
    rw c.replace_value-value.ensures.room.room_is
    (joined_kept c.args.self.now.nodes c.replace_value-value.new.self c.args.upper c.args.lower put.0 _
    (lone_apart c.args.self.now c.args.upper c.args.lower c.requires.lone) within.0 within.1 put.1 put.2 c.requires.room)

pub release-none-requires-clause-there : goal.release-none-requires-clause-there
release-none-requires-clause-there g c =
    let within = (lone_within c.args.self.now c.args.upper c.args.lower c.requires.lone).1 in
    let long = ap length c.replace_value-value.ensures.node.2 ∙ length-set c.args.self.now.nodes.items c.args.lower _ in
    let still = ap length c.join_labels-old.ensures.nodes.4 ∙ length-set c.replace_value-value.new.self.items c.args.upper _ in
    omega (arith, within, long, still)

pub release-none-requires-clause-free : goal.release-none-requires-clause-free
release-none-requires-clause-free g c =
    let long = ap length c.replace_value-value.ensures.node.2 ∙ length-set c.args.self.now.nodes.items c.args.lower _ in
    let still = ap length c.join_labels-old.ensures.nodes.4 ∙ length-set c.replace_value-value.new.self.items c.args.upper _ in
    rw (still, long) (holds_free c.args.self.now _ c.requires.lone.7)

pub returns : goal.returns
returns g c fs l v m w e d h =
    let put = c.replace_value-value.ensures.node in
    let join = c.join_labels-old.ensures.nodes in
    let freed = c.release-none.ensures.frees.1 in
    absorbs c.args.self.now c.release-none.new.self c.args.upper c.args.lower put.0 join.0 join.1 c.child-child.result
    c.replace_value-value.result c.join_labels-old.result c.replace_value-value.new.self.items c.join_labels-old.new.self.items
    c.requires.lone put.1 (c.child-child.ensures.node put.0 put.1) put.2 put.3 join.2 join.3 join.4 join.5
    freed.nodes_is freed.root_is freed.free_is fs l v m w e d h
