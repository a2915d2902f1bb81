use Rattle.std.proofs.Common.{ap, arith}
use Rattle.patricia_store.proofs.StoreLemmas.{in_heads, in_bodies, body_span, item_there, span_read, label_read}
use Rattle.patricia_store.proofs.SplitLemmas.{len_read, joins}
use Rattle.patricia_store.proofs.store.Store.join_labels.Goals as goal

pub index-head-requires : goal.index-head-requires
index-head-requires g c =
    in_heads c.self.inside.heads c.self.inside.bodies c.self.inside.labels.items c.self.invariant c.args.self.now.items (ap (λ s. s.items) c.self.view_is)
    c.args.upper c.requires.upper

pub index-requires : goal.index-requires
index-requires g c =
    in_bodies c.self.inside.heads c.self.inside.bodies c.self.inside.labels.items c.self.invariant c.args.self.now.items (ap (λ s. s.items) c.self.view_is)
    c.args.upper c.requires.upper

pub index-requires-2 : goal.index-requires-2
index-requires-2 g c =
    in_heads c.self.inside.heads c.self.inside.bodies c.self.inside.labels.items c.self.invariant c.args.self.now.items (ap (λ s. s.items) c.self.view_is)
    c.args.lower c.requires.lower

pub index-requires-3 : goal.index-requires-3
index-requires-3 g c =
    in_bodies c.self.inside.heads c.self.inside.bodies c.self.inside.labels.items c.self.invariant c.args.self.now.items (ap (λ s. s.items) c.self.view_is)
    c.args.lower c.requires.lower

pub write-requires-clause-in_heads : goal.write-requires-clause-in_heads
write-requires-clause-in_heads g c =
    in_heads c.self.inside.heads c.self.inside.bodies c.self.inside.labels.items c.self.invariant c.args.self.now.items (ap (λ s. s.items) c.self.view_is)
    c.args.upper c.requires.upper

pub write-requires-clause-in_bodies : goal.write-requires-clause-in_bodies
write-requires-clause-in_bodies g c =
    in_bodies c.self.inside.heads c.self.inside.bodies c.self.inside.labels.items c.self.invariant c.args.self.now.items (ap (λ s. s.items) c.self.view_is)
    c.args.upper c.requires.upper

pub join-requires-clause-upper : goal.join-requires-clause-upper
join-requires-clause-upper g c =
    span_read c.self.inside.heads c.self.inside.bodies c.self.inside.labels.items c.self.invariant c.args.self.now.items (ap (λ s. s.items) c.self.view_is)
    c.args.upper c.requires.upper c.index-head.result.now c.index-head.ensures c.index.result.now c.index.ensures c.span_of-first.result c.span_of-first.ensures

pub join-requires-clause-lower : goal.join-requires-clause-lower
join-requires-clause-lower g c =
    span_read c.self.inside.heads c.self.inside.bodies c.self.inside.labels.items c.self.invariant c.args.self.now.items (ap (λ s. s.items) c.self.view_is)
    c.args.lower c.requires.lower c.index-2.result.now c.index-2.ensures c.index-3.result.now c.index-3.ensures c.span_of-second.result c.span_of-second.ensures

pub join-requires-clause-room : goal.join-requires-clause-room
join-requires-clause-room g c =
    let a = item_there c.args.self.now.items c.args.upper c.requires.upper in
    let b = item_there c.args.self.now.items c.args.lower c.requires.lower in
    let first = len_read c.self.inside.heads c.self.inside.bodies c.self.inside.labels.items c.self.invariant c.args.self.now.items (ap (λ s. s.items) c.self.view_is)
    c.args.upper c.requires.upper c.index-head.result.now c.index-head.ensures c.index.result.now c.index.ensures c.span_of-first.result c.span_of-first.ensures a.0 a.1 in
    let second = len_read c.self.inside.heads c.self.inside.bodies c.self.inside.labels.items c.self.invariant c.args.self.now.items (ap (λ s. s.items) c.self.view_is)
    c.args.lower c.requires.lower c.index-2.result.now c.index-2.ensures c.index-3.result.now c.index-3.ensures c.span_of-second.result c.span_of-second.ensures b.0 b.1 in
    rw (first, second) (omega (arith, c.requires.room a.0 a.1 b.0 b.1, ap (λ s. s.room) c.self.view_is))

pub invariant_of-self : goal.invariant_of-self
invariant_of-self g c =
    (joins c.self.inside.heads c.self.inside.bodies c.self.inside.labels.items c.self.invariant c.args.self.now.items (ap (λ s. s.items) c.self.view_is)
    c.args.upper c.requires.upper c.index-head.result.now c.index-head.ensures c.span_of-first.result
    (label_read c.self.inside.heads c.self.inside.bodies c.self.inside.labels.items c.self.invariant c.args.self.now.items (ap (λ s. s.items) c.self.view_is)
    c.args.upper c.requires.upper c.index-head.result.now c.index-head.ensures c.index.result.now c.index.ensures c.span_of-first.result c.span_of-first.ensures)
    c.join.new.self.items c.join.ensures.extends c.sibling.result c.sibling.ensures.value c.sibling.ensures.small
    c.args.value c.write.result c.write.ensures.value c.write.new.heads c.write.new.bodies
    c.args.lower c.requires.lower c.span_of-second.result c.join.result
    (label_read c.self.inside.heads c.self.inside.bodies c.self.inside.labels.items c.self.invariant c.args.self.now.items (ap (λ s. s.items) c.self.view_is)
    c.args.lower c.requires.lower c.index-2.result.now c.index-2.ensures c.index-3.result.now c.index-3.ensures c.span_of-second.result c.span_of-second.ensures)
    c.join.ensures.span c.join.ensures.label c.args.child c.requires.link (ap (λ v. v.items) c.write.ensures.heads) (ap (λ v. v.items) c.write.ensures.bodies)).0

pub returns-clause-nodes : goal.returns-clause-nodes
returns-clause-nodes g c =
    (joins c.self.inside.heads c.self.inside.bodies c.self.inside.labels.items c.self.invariant c.args.self.now.items (ap (λ s. s.items) c.self.view_is)
    c.args.upper c.requires.upper c.index-head.result.now c.index-head.ensures c.span_of-first.result
    (label_read c.self.inside.heads c.self.inside.bodies c.self.inside.labels.items c.self.invariant c.args.self.now.items (ap (λ s. s.items) c.self.view_is)
    c.args.upper c.requires.upper c.index-head.result.now c.index-head.ensures c.index.result.now c.index.ensures c.span_of-first.result c.span_of-first.ensures)
    c.join.new.self.items c.join.ensures.extends c.sibling.result c.sibling.ensures.value c.sibling.ensures.small
    c.args.value c.write.result c.write.ensures.value c.write.new.heads c.write.new.bodies
    c.args.lower c.requires.lower c.span_of-second.result c.join.result
    (label_read c.self.inside.heads c.self.inside.bodies c.self.inside.labels.items c.self.invariant c.args.self.now.items (ap (λ s. s.items) c.self.view_is)
    c.args.lower c.requires.lower c.index-2.result.now c.index-2.ensures c.index-3.result.now c.index-3.ensures c.span_of-second.result c.span_of-second.ensures)
    c.join.ensures.span c.join.ensures.label c.args.child c.requires.link (ap (λ v. v.items) c.write.ensures.heads) (ap (λ v. v.items) c.write.ensures.bodies)).1

pub returns-clause-room : goal.returns-clause-room
returns-clause-room g c a there b beside =
    let first = len_read c.self.inside.heads c.self.inside.bodies c.self.inside.labels.items c.self.invariant c.args.self.now.items (ap (λ s. s.items) c.self.view_is)
    c.args.upper c.requires.upper c.index-head.result.now c.index-head.ensures c.index.result.now c.index.ensures c.span_of-first.result c.span_of-first.ensures a there in
    let second = len_read c.self.inside.heads c.self.inside.bodies c.self.inside.labels.items c.self.invariant c.args.self.now.items (ap (λ s. s.items) c.self.view_is)
    c.args.lower c.requires.lower c.index-2.result.now c.index-2.ensures c.index-3.result.now c.index-3.ensures c.span_of-second.result c.span_of-second.ensures b beside in
    rw (← first, ← second) (omega (arith, c.join.ensures.room, ap (λ s. s.room) c.self.view_is))

pub label_len-upper_len-requires : goal.label_len-upper_len-requires
label_len-upper_len-requires g c =
    body_span c.self.inside.heads c.self.inside.bodies c.self.inside.labels.items c.self.invariant c.args.self.now.items (ap (λ s. s.items) c.self.view_is)
    c.args.upper c.requires.upper c.index-4.result.now c.index-4.ensures

pub index-requires-4 : goal.index-requires-4
index-requires-4 g c =
    in_bodies c.self.inside.heads c.self.inside.bodies c.self.inside.labels.items c.self.invariant c.args.self.now.items (ap (λ s. s.items) c.self.view_is)
    c.args.upper c.requires.upper

pub label_len-lower_len-requires : goal.label_len-lower_len-requires
label_len-lower_len-requires g c =
    body_span c.self.inside.heads c.self.inside.bodies c.self.inside.labels.items c.self.invariant c.args.self.now.items (ap (λ s. s.items) c.self.view_is)
    c.args.lower c.requires.lower c.index-5.result.now c.index-5.ensures

pub index-requires-5 : goal.index-requires-5
index-requires-5 g c =
    in_bodies c.self.inside.heads c.self.inside.bodies c.self.inside.labels.items c.self.invariant c.args.self.now.items (ap (λ s. s.items) c.self.view_is)
    c.args.lower c.requires.lower
