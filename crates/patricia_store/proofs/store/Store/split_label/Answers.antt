use Rattle.std.proofs.Common.{◌≡◌, length, ap, arith}
use Rattle.patricia_store.specs.Internal.Labels.{len_in, cut_room}
use Rattle.patricia_store.proofs.StoreLemmas.{in_heads, in_bodies, body_span, item_there, span_read, label_read}
use Rattle.patricia_store.proofs.SplitLemmas.{len_read, splits}
use Rattle.patricia_store.proofs.store.Store.split_label.Goals as goal

pub index-head-requires : goal.index-head-requires
index-head-requires g c =
    in_heads c.self.inside.heads c.self.inside.bodies c.self.inside.labels.items c.self.invariant c.args.self.now.items (ap (λ s. s.items) c.self.view_is)
    c.args.id c.requires.there

pub index-requires : goal.index-requires
index-requires g c =
    in_bodies c.self.inside.heads c.self.inside.bodies c.self.inside.labels.items c.self.invariant c.args.self.now.items (ap (λ s. s.items) c.self.view_is)
    c.args.id c.requires.there

pub cut-requires-clause-span : goal.cut-requires-clause-span
cut-requires-clause-span g c =
    span_read c.self.inside.heads c.self.inside.bodies c.self.inside.labels.items c.self.invariant c.args.self.now.items (ap (λ s. s.items) c.self.view_is)
    c.args.id c.requires.there c.index-head.result.now c.index-head.ensures c.index.result.now c.index.ensures c.span_of-span.result c.span_of-span.ensures

pub cut-requires-clause-room : goal.cut-requires-clause-room
cut-requires-clause-room g c =
    let a = item_there c.args.self.now.items c.args.id c.requires.there in
    let same : cut_room (len_in c.self.inside.labels.items c.span_of-span.result) ≡ cut_room (length a.0.label) =
    ap cut_room (len_read c.self.inside.heads c.self.inside.bodies c.self.inside.labels.items c.self.invariant c.args.self.now.items (ap (λ s. s.items) c.self.view_is)
    c.args.id c.requires.there c.index-head.result.now c.index-head.ensures c.index.result.now c.index.ensures c.span_of-span.result c.span_of-span.ensures a.0 a.1) in
    omega (arith, same, c.requires.room a.0 a.1, ap (λ s. s.room) c.self.view_is)

pub write-value-requires-clause-in_heads : goal.write-value-requires-clause-in_heads
write-value-requires-clause-in_heads g c =
    in_heads c.self.inside.heads c.self.inside.bodies c.self.inside.labels.items c.self.invariant c.args.self.now.items (ap (λ s. s.items) c.self.view_is)
    c.args.id c.requires.there

pub write-value-requires-clause-in_bodies : goal.write-value-requires-clause-in_bodies
write-value-requires-clause-in_bodies g c =
    in_bodies c.self.inside.heads c.self.inside.bodies c.self.inside.labels.items c.self.invariant c.args.self.now.items (ap (λ s. s.items) c.self.view_is)
    c.args.id c.requires.there

pub write-value-requires-clause-child : goal.write-value-requires-clause-child
write-value-requires-clause-child g c =
    let short = in_heads c.self.inside.heads c.self.inside.bodies c.self.inside.labels.items c.self.invariant c.args.self.now.items (ap (λ s. s.items) c.self.view_is)
    c.args.tail c.requires.tail in
    omega (arith, short, c.self.inside.heads.ok.0, c.self.invariant.few)

pub index-requires-2 : goal.index-requires-2
index-requires-2 g c =
    let short = in_heads c.self.inside.heads c.self.inside.bodies c.self.inside.labels.items c.self.invariant c.args.self.now.items (ap (λ s. s.items) c.self.view_is)
    c.args.tail c.requires.tail in
    omega (arith, short, ap (λ v. v.len) c.write-value.ensures.heads)

pub write-requires-clause-in_heads : goal.write-requires-clause-in_heads
write-requires-clause-in_heads g c =
    let short = in_heads c.self.inside.heads c.self.inside.bodies c.self.inside.labels.items c.self.invariant c.args.self.now.items (ap (λ s. s.items) c.self.view_is)
    c.args.tail c.requires.tail in
    omega (arith, short, ap (λ v. v.len) c.write-value.ensures.heads)

pub write-requires-clause-in_bodies : goal.write-requires-clause-in_bodies
write-requires-clause-in_bodies g c =
    let short = in_bodies c.self.inside.heads c.self.inside.bodies c.self.inside.labels.items c.self.invariant c.args.self.now.items (ap (λ s. s.items) c.self.view_is)
    c.args.tail c.requires.tail in
    omega (arith, short, ap (λ v. v.len) c.write-value.ensures.bodies)

pub invariant_of-self : goal.invariant_of-self
invariant_of-self g c =
    (splits c.self.inside.heads c.self.inside.bodies c.self.inside.labels.items c.self.invariant c.args.self.now.items (ap (λ s. s.items) c.self.view_is)
    c.args.id c.requires.there c.index-head.result.now c.index-head.ensures c.span_of-span.result
    (label_read c.self.inside.heads c.self.inside.bodies c.self.inside.labels.items c.self.invariant c.args.self.now.items (ap (λ s. s.items) c.self.view_is)
    c.args.id c.requires.there c.index-head.result.now c.index-head.ensures c.index.result.now c.index.ensures c.span_of-span.result c.span_of-span.ensures)
    c.cut.new.self.items c.cut.ensures.extends c.sibling.result c.sibling.ensures.value c.sibling.ensures.small
    c.args.value c.write-value.result c.write-value.ensures.value c.write-value.new.heads c.write-value.new.bodies
    c.args.n c.args.tail c.requires.tail (omega (arith, in_heads c.self.inside.heads c.self.inside.bodies c.self.inside.labels.items c.self.invariant c.args.self.now.items (ap (λ s. s.items) c.self.view_is) c.args.tail c.requires.tail, c.self.inside.heads.ok.0, c.self.invariant.few)) c.requires.apart c.cut.result.0 c.cut.result.1 c.cut.ensures.first c.cut.ensures.last
    c.cut.ensures.front c.cut.ensures.back (ap (λ v. v.items) c.write-value.ensures.heads) (ap (λ v. v.items) c.write-value.ensures.bodies)
    c.index-2.result.now c.index-2.ensures c.child.result c.sibling-2.result c.child.ensures.value c.sibling-2.ensures.value c.sibling-2.ensures.small
    c.write.result c.write.ensures.value c.write.new.heads (ap (λ v. v.items) c.write.ensures.heads) c.write.new.bodies (ap (λ v. v.items) c.write.ensures.bodies)).0

pub returns-clause-nodes : goal.returns-clause-nodes
returns-clause-nodes g c =
    (splits c.self.inside.heads c.self.inside.bodies c.self.inside.labels.items c.self.invariant c.args.self.now.items (ap (λ s. s.items) c.self.view_is)
    c.args.id c.requires.there c.index-head.result.now c.index-head.ensures c.span_of-span.result
    (label_read c.self.inside.heads c.self.inside.bodies c.self.inside.labels.items c.self.invariant c.args.self.now.items (ap (λ s. s.items) c.self.view_is)
    c.args.id c.requires.there c.index-head.result.now c.index-head.ensures c.index.result.now c.index.ensures c.span_of-span.result c.span_of-span.ensures)
    c.cut.new.self.items c.cut.ensures.extends c.sibling.result c.sibling.ensures.value c.sibling.ensures.small
    c.args.value c.write-value.result c.write-value.ensures.value c.write-value.new.heads c.write-value.new.bodies
    c.args.n c.args.tail c.requires.tail (omega (arith, in_heads c.self.inside.heads c.self.inside.bodies c.self.inside.labels.items c.self.invariant c.args.self.now.items (ap (λ s. s.items) c.self.view_is) c.args.tail c.requires.tail, c.self.inside.heads.ok.0, c.self.invariant.few)) c.requires.apart c.cut.result.0 c.cut.result.1 c.cut.ensures.first c.cut.ensures.last
    c.cut.ensures.front c.cut.ensures.back (ap (λ v. v.items) c.write-value.ensures.heads) (ap (λ v. v.items) c.write-value.ensures.bodies)
    c.index-2.result.now c.index-2.ensures c.child.result c.sibling-2.result c.child.ensures.value c.sibling-2.ensures.value c.sibling-2.ensures.small
    c.write.result c.write.ensures.value c.write.new.heads (ap (λ v. v.items) c.write.ensures.heads) c.write.new.bodies (ap (λ v. v.items) c.write.ensures.bodies)).1

pub returns-clause-room : goal.returns-clause-room
returns-clause-room g c n reads =
    let same : cut_room (len_in c.self.inside.labels.items c.span_of-span.result) ≡ cut_room (length n.label) =
    ap cut_room (len_read c.self.inside.heads c.self.inside.bodies c.self.inside.labels.items c.self.invariant c.args.self.now.items (ap (λ s. s.items) c.self.view_is)
    c.args.id c.requires.there c.index-head.result.now c.index-head.ensures c.index.result.now c.index.ensures c.span_of-span.result c.span_of-span.ensures n reads) in
    omega (arith, same, c.cut.ensures.room, ap (λ s. s.room) c.self.view_is)

pub index-replaced-requires : goal.index-replaced-requires
index-replaced-requires g c =
    in_bodies c.self.inside.heads c.self.inside.bodies c.self.inside.labels.items c.self.invariant c.args.self.now.items (ap (λ s. s.items) c.self.view_is)
    c.args.tail c.requires.tail

pub label_len-requires : goal.label_len-requires
label_len-requires g c =
    body_span c.self.inside.heads c.self.inside.bodies c.self.inside.labels.items c.self.invariant c.args.self.now.items (ap (λ s. s.items) c.self.view_is)
    c.args.tail c.requires.tail c.index-replaced.result.now c.index-replaced.ensures
