use Rattle.std.proofs.Common.{◌+◌, refl, sym, ◌∙◌, ap, arith}
use Rattle.patricia_nodes.proofs.NodeVecLemmas.{node_there}
use Rattle.patricia_edits.proofs.MeasureLemmas.{measuring_start, next_within, not_all, not_full}
use Rattle.patricia_edits.proofs.MeasureLemmas.{measuring_down, less_down, measuring_back}
use Rattle.patricia_edits.proofs.MeasureLemmas.{less_back, measuring_done}
use Rattle.patricia_edits.proofs.splitting.measure.Goals as goal

pub loop-id-init : goal.loop-id-init
loop-id-init g c = rw c.new-waiting.ensures.items (measuring_start c.args.arena.now.nodes.items c.args.first c.requires.0 c.requires.1)

pub value-requires : goal.value-requires
value-requires g c =
    next_within _ _ _ _ _ _ _ c.loop-id.invariant c.in-Some.id (sym c.get.ensures ∙ c.in-Some.is)

pub sibling-requires : goal.sibling-requires
sibling-requires g c =
    next_within _ _ _ _ _ _ _ c.loop-id.invariant c.in-Some.id (sym c.get.ensures ∙ c.in-Some.is)

pub child-at-requires : goal.child-at-requires
child-at-requires g c =
    next_within _ _ _ _ _ _ _ c.loop-id.invariant c.in-Some.id (sym c.get.ensures ∙ c.in-Some.is)

pub overflow_add-size : goal.overflow_add-size
overflow_add-size g c =
    let is = sym c.get.ensures ∙ c.in-Some.is in
    let there = node_there c.args.arena.now.nodes.items c.in-Some.id (next_within _ _ _ _ _ _ _ c.loop-id.invariant c.in-Some.id is) in
    let fits = not_all _ _ _ _ _ _ _ c.loop-id.invariant c.in-Some.id is there.0 there.1 in
    omega (arith, fits, c.len-few.ensures.value, c.len-few.ensures.few)

pub overflow_add-size-in-Some : goal.overflow_add-size-in-Some
overflow_add-size-in-Some g c =
    let is = sym c.get.ensures ∙ c.in-Some.is in
    let there = node_there c.args.arena.now.nodes.items c.in-Some.id (next_within _ _ _ _ _ _ _ c.loop-id.invariant c.in-Some.id is) in
    let fits = not_full _ _ _ _ _ _ _ c.loop-id.invariant c.in-Some.id is there.0 there.1 in
    omega (arith, fits, c.len-few.ensures.value, c.len-few.ensures.few, rw (c.value.ensures _ there.1) at c.how_many.ensures)

pub loop-id-smaller-in-Some : goal.loop-id-smaller-in-Some
loop-id-smaller-in-Some g c =
    let is = sym c.get.ensures ∙ c.in-Some.is in
    let there = node_there c.args.arena.now.nodes.items c.in-Some.id (next_within _ _ _ _ _ _ _ c.loop-id.invariant c.in-Some.id is) in
    rw (c.child-at.ensures.node _ there.1)
    (less_down _ _ _ _ _ _ _ c.loop-id.invariant c.in-Some.id is there.0 there.1 _
    (rw (c.sibling.ensures.node _ there.1) at c.in_ok-push-in-Some.ensures.items))

pub loop-id-preserved-in-Some : goal.loop-id-preserved-in-Some
loop-id-preserved-in-Some g c =
    let is = sym c.get.ensures ∙ c.in-Some.is in
    let there = node_there c.args.arena.now.nodes.items c.in-Some.id (next_within _ _ _ _ _ _ _ c.loop-id.invariant c.in-Some.id is) in
    rw (c.child-at.ensures.node _ there.1)
    (measuring_down _ _ _ _ _ _ _ c.loop-id.invariant c.in-Some.id is there.0 there.1 _ _ _ refl
    (ap (λ n. c.loop-id.size.values + n) (rw (c.value.ensures _ there.1) at c.how_many.ensures))
    (c.in_ok-size-in-Some.ensures ∙ ap (λ n. c.loop-id.size.bytes + n) (c.label_room.ensures _ there.1)) _
    (rw (c.sibling.ensures.node _ there.1) at c.in_ok-push-in-Some.ensures.items))

pub loop-id-smaller : goal.loop-id-smaller
loop-id-smaller g c = less_back _ _ _ _ _ _ _ c.loop-id.invariant (sym c.get.ensures ∙ c.in-None.is) _ _ c.in-Some-pop.ensures.items

pub loop-id-preserved : goal.loop-id-preserved
loop-id-preserved g c = measuring_back _ _ _ _ _ _ _ c.loop-id.invariant (sym c.get.ensures ∙ c.in-None.is) _ _ c.in-Some-pop.ensures.items

pub returns-in-None-pop : goal.returns-in-None-pop
returns-in-None-pop g c p plan = measuring_done _ _ _ _ _ _ _ c.loop-id.invariant
    (sym c.get.ensures ∙ c.in-None.is) (let e = c.in-None-pop.ensures.cases in omega (arith, e.0))
    p plan

pub label_room-requires : goal.label_room-requires
label_room-requires g c = next_within _ _ _ _ _ _ _ c.loop-id.invariant c.in-Some.id (sym c.get.ensures ∙ c.in-Some.is)
