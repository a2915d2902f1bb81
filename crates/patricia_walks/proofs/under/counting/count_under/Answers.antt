use Rattle.std.proofs.Common.{refl, arith, take}
use Rattle.std.proofs.lemmas.List.{length-take-le}
use Rattle.patricia_nodes.proofs.NodeVecLemmas.{node_there}
use Rattle.patricia_nodes.proofs.SeekLemmas.{head_within}
use Rattle.patricia_walks.proofs.DepthLemmas.{first_node, count_top_within, count_entries}
use Rattle.patricia_walks.proofs.DepthLemmas.{deep_siblings}
use Rattle.patricia_walks.proofs.UnderLemmas.{if_none}
use Rattle.patricia_walks.proofs.under.counting.count_under.Goals as goal

pub child-requires : goal.child-requires
child-requires g c =
    let start = c.in-Some.start in
    let top = c.in-Some.ensures.some.0.top in
    omega (arith, head_within start.arena.now.nodes.items _ _ start.top top.plan refl)

pub count_value-requires : goal.count_value-requires
count_value-requires g c =
    let start = c.in-Some.start in
    let top = c.in-Some.ensures.some.0.top in
    omega (arith, head_within start.arena.now.nodes.items _ _ start.top top.plan refl)

pub count_siblings-requires : goal.count_siblings-requires
count_siblings-requires g c =
    let start = c.in-Some.start in
    let top = c.in-Some.ensures.some.0.top in
    let there = node_there _ _ (head_within start.arena.now.nodes.items _ _ start.top top.plan refl) in
    rw (c.child.ensures.node _ there.1)
    (first_node start.arena.now.nodes.items _ start.top there.0 top.plan refl there.1).child

pub returns-in_err-below-clause-none : goal.returns-in_err-below-clause-none
returns-in_err-below-clause-none g c =
    let start = c.in-Some.start in
    let top = c.in-Some.ensures.some.0.top in
    let there = node_there _ _ (head_within start.arena.now.nodes.items _ _ start.top top.plan refl) in
    let first = first_node start.arena.now.nodes.items _ start.top there.0 top.plan refl there.1 in
    let key = g.Q.BorrowedBytes.key start.prefix in
    if_none _
    (deep_siblings start.arena.now.nodes.items start.top there.0 first _ g.met.Q.Owned.Bytes.lawful top.canonical
    (take start.front key) _ (omega (arith, c.in-Some.ensures.label, length-take-le start.front key c.in-Some.ensures.some.0.within))
    _ c.in-Some.ensures.some.1 64 (rw (c.child.ensures.node _ there.1) at c.in_err-below.ensures.none))

pub overflow_add-result : goal.overflow_add-result
overflow_add-result g c =
    let start = c.in-Some.start in
    let top = c.in-Some.ensures.some.0.top in
    let there = node_there _ _ (head_within start.arena.now.nodes.items _ _ start.top top.plan refl) in
    let first = first_node start.arena.now.nodes.items _ start.top there.0 top.plan refl there.1 in
    let most = count_top_within start.arena.now.nodes.items start.top there.0 first _ _ top.plan
    (c.count_value.ensures _ there.1) (rw (c.child.ensures.node _ there.1) at c.in_ok-below.ensures.some) in
    omega (arith, most, c.len-few.ensures.value, c.len-few.ensures.few)

pub returns-clause-some : goal.returns-clause-some
returns-clause-some g c =
    let start = c.in-Some.start in
    let top = c.in-Some.ensures.some.0.top in
    let there = node_there _ _ (head_within start.arena.now.nodes.items _ _ start.top top.plan refl) in
    let first = first_node start.arena.now.nodes.items _ start.top there.0 top.plan refl there.1 in
    count_entries start.arena.now.nodes.items start.top there.0 first
    (take start.front (g.Q.BorrowedBytes.key start.prefix)) _ c.in-Some.ensures.some.1 _ _
    (c.count_value.ensures _ there.1) (rw (c.child.ensures.node _ there.1) at c.in_ok-below.ensures.some)
