use Rattle.std.proofs.Common.{◌+◌, drop, ap, ◌∙◌, arith}
use Rattle.patricia_store.specs.Internal.Nodes.{Node}
use Rattle.patricia_nodes.proofs.NodeVecLemmas.{node_there}
use Rattle.patricia_edits.proofs.NodeLemmas.{own_as, node_within, tree_fits, values_fit, node_read}
use Rattle.patricia_edits.proofs.NodeLemmas.{child_plan, tree_counted}
use Rattle.patricia_edits.proofs.splitting.room_for.Goals as goal

pub child-requires : goal.child-requires
child-requires g c =
    let h = c.requires.node in
    node_within c.args.arena.now c.args.id h.0 h.1 h.2 h.3 h.4 h.5

pub value-requires : goal.value-requires
value-requires g c =
    let h = c.requires.node in
    node_within c.args.arena.now c.args.id h.0 h.1 h.2 h.3 h.4 h.5

pub measure-requires : goal.measure-requires
measure-requires g c =
    let h = c.requires.node in
    let there = node_there c.args.arena.now.nodes.items c.args.id (node_within c.args.arena.now c.args.id h.0 h.1 h.2 h.3 h.4 h.5) in
    rw (c.child.ensures.node _ there.1)
    (h.3, child_plan c.args.arena.now c.args.id h.0 h.1 h.2 h.3 h.4 h.5 there.0 there.1)

pub overflow_add-below : goal.overflow_add-below
overflow_add-below g c =
    let h = c.requires.node in
    let there = node_there c.args.arena.now.nodes.items c.args.id (node_within c.args.arena.now c.args.id h.0 h.1 h.2 h.3 h.4 h.5) in
    let plan = child_plan c.args.arena.now c.args.id h.0 h.1 h.2 h.3 h.4 h.5 there.0 there.1 in
    let counted = (rw (c.child.ensures.node _ there.1) at c.in_ok-below.ensures) h.3 plan in
    omega (arith, c.len-few.ensures.value, c.len-few.ensures.few, counted.0, tree_fits c.args.arena.now c.args.id h.0 h.1 h.2 h.3 h.4 h.5)

pub overflow_add-result : goal.overflow_add-result
overflow_add-result g c =
    let h = c.requires.node in
    let there = node_there c.args.arena.now.nodes.items c.args.id (node_within c.args.arena.now c.args.id h.0 h.1 h.2 h.3 h.4 h.5) in
    let plan = child_plan c.args.arena.now c.args.id h.0 h.1 h.2 h.3 h.4 h.5 there.0 there.1 in
    let counted = (rw (c.child.ensures.node _ there.1) at c.in_ok-below.ensures) h.3 plan in
    let is = node_read c.args.arena.now c.args.id h.0 h.1 h.2 h.3 h.4 h.5 there.0 there.1 in
    let many = own_as there.0 _ is in
    let some = rw (c.value.ensures _ there.1) at c.how_many.ensures in
    omega (arith, c.len-few.ensures.value, c.len-few.ensures.few, counted.1, many, some, values_fit c.args.arena.now c.args.id h.0 h.1 h.2 h.3 h.4 h.5)

pub returns-clause-counted : goal.returns-clause-counted
returns-clause-counted g c fs l v child d holds =
    let there = node_there c.args.arena.now.nodes.items c.args.id (node_within c.args.arena.now c.args.id fs l v child d holds) in
    let plan = child_plan c.args.arena.now c.args.id fs l v child d holds there.0 there.1 in
    let counted = (rw (c.child.ensures.node _ there.1) at c.in_ok-below.ensures) child plan in
    tree_counted c.args.arena.now c.args.id fs l v child d holds there.0 there.1 _ _
    _ _ (counted.0, counted.1) c.in_ok-room.ensures.capacity
    (ap (λ n. c.in_ok-below.below.values + n) (rw (c.value.ensures _ there.1) at c.how_many.ensures))

pub label-requires : goal.label-requires
label-requires g c =
    let h = c.requires.node in
    node_within c.args.arena.now c.args.id h.0 h.1 h.2 h.3 h.4 h.5

pub returns-clause-bytes : goal.returns-clause-bytes
returns-clause-bytes g c fs l v child d holds =
    let there = node_there c.args.arena.now.nodes.items c.args.id (node_within c.args.arena.now c.args.id fs l v child d holds) in
    let plan = child_plan c.args.arena.now c.args.id fs l v child d holds there.0 there.1 in
    let counted = (rw (c.child.ensures.node _ there.1) at c.in_ok-below.ensures) child plan in
    let label = ap (λ (n : Node g.row.V.Denot). n.label) (node_read c.args.arena.now c.args.id fs l v child d holds there.0 there.1) in
    let rest = c.behind.ensures ∙ ap (drop c.args.passed) (c.label.ensures _ there.1 ∙ label) in
    let top = rw rest at c.in_ok-top.ensures in
    omega (arith, top, c.in_ok-bytes.ensures, c.in_ok-room.ensures.room, counted.2)

pub behind-requires : goal.behind-requires
behind-requires g c =
    let h = c.requires.node in
    let there = node_there c.args.arena.now.nodes.items c.args.id (node_within c.args.arena.now c.args.id h.0 h.1 h.2 h.3 h.4 h.5) in
    rw (c.label.ensures _ there.1) (c.requires.passed there.0 there.1)
