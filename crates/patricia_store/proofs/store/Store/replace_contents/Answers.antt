use Rattle.std.proofs.Common.{ap, ◌+◌, ◌∙◌, sym, slice_set, arith}
use Rattle.std.specs.Vec.{with_item}
use Rattle.std.proofs.lemmas.Option.{slice_get_read, same_Some}
use Rattle.patricia_store.specs.Internal.Heads.{head_of}
use Rattle.patricia_store.specs.Internal.Bodies.{value_in}
use Rattle.patricia_store.proofs.StoreLemmas.{in_heads, in_bodies}
use Rattle.patricia_store.proofs.ChangeLemmas.{changes_all}
use Rattle.patricia_store.proofs.store.Store.replace_contents.Goals as goal

pub index-requires : goal.index-requires
index-requires g c =
    in_heads c.self.inside.heads c.self.inside.bodies c.self.inside.labels.items c.self.invariant c.args.self.now.items (ap (λ s. s.items) c.self.view_is)
    c.args.id c.requires.there

pub overflow_add-id : goal.overflow_add-id
overflow_add-id g c =
    let there = in_heads c.self.inside.heads c.self.inside.bodies c.self.inside.labels.items c.self.invariant c.args.self.now.items (ap (λ s. s.items) c.self.view_is)
    c.args.id c.requires.there in
    omega (arith, there, c.self.inside.heads.ok.0)

pub index_mut-requires : goal.index_mut-requires
index_mut-requires g c =
    in_heads c.self.inside.heads c.self.inside.bodies c.self.inside.labels.items c.self.invariant c.args.self.now.items (ap (λ s. s.items) c.self.view_is)
    c.args.id c.requires.there

pub index_mut-requires-2 : goal.index_mut-requires-2
index_mut-requires-2 g c =
    in_bodies c.self.inside.heads c.self.inside.bodies c.self.inside.labels.items c.self.invariant c.args.self.now.items (ap (λ s. s.items) c.self.view_is)
    c.args.id c.requires.there

pub invariant_of-self : goal.invariant_of-self
invariant_of-self g c =
    (changes_all c.self.inside.heads c.self.inside.bodies c.self.inside.labels.items c.self.invariant c.args.self.now.items (ap (λ s. s.items) c.self.view_is)
    c.args.id c.requires.there
    c.index.result.now c.index.ensures c.push-span.new.self.items c.push-span.ensures.extends c.args.child c.requires.link c.sibling-sibling.result c.sibling-sibling.ensures.value c.sibling-sibling.ensures.small c.push-span.result c.push-span.ensures.span c.args.label.now c.push-span.ensures.label c.args.value c.replace.result
    (λ b there. c.replace.ensures.old ∙ ap value_in (same_Some c.index_mut-2.result.now b (sym (slice_get_read c.self.inside.bodies.items c.self.inside.bodies.len c.args.id c.index_mut-2.result.now c.self.inside.bodies.ok.0
    (in_bodies c.self.inside.heads c.self.inside.bodies c.self.inside.labels.items c.self.invariant c.args.self.now.items (ap (λ s. s.items) c.self.view_is) c.args.id c.requires.there) c.index_mut-2.ensures.value) ∙ there)))
    (with_item c.self.inside.heads c.args.id c.new.result)
    (ap (slice_set c.self.inside.heads.items c.args.id) (c.new.ensures ∙ ap (λ l. head_of (c.args.id + 1) c.args.child c.sibling-sibling.result l c.push-span.result.offset) (sym c.push-span.ensures.label)))
    (with_item c.self.inside.bodies c.args.id c.replace.new.self)
    (ap (slice_set c.self.inside.bodies.items c.args.id) c.replace.ensures.new)).0

pub returns-clause-node : goal.returns-clause-node
returns-clause-node g c =
    (changes_all c.self.inside.heads c.self.inside.bodies c.self.inside.labels.items c.self.invariant c.args.self.now.items (ap (λ s. s.items) c.self.view_is)
    c.args.id c.requires.there
    c.index.result.now c.index.ensures c.push-span.new.self.items c.push-span.ensures.extends c.args.child c.requires.link c.sibling-sibling.result c.sibling-sibling.ensures.value c.sibling-sibling.ensures.small c.push-span.result c.push-span.ensures.span c.args.label.now c.push-span.ensures.label c.args.value c.replace.result
    (λ b there. c.replace.ensures.old ∙ ap value_in (same_Some c.index_mut-2.result.now b (sym (slice_get_read c.self.inside.bodies.items c.self.inside.bodies.len c.args.id c.index_mut-2.result.now c.self.inside.bodies.ok.0
    (in_bodies c.self.inside.heads c.self.inside.bodies c.self.inside.labels.items c.self.invariant c.args.self.now.items (ap (λ s. s.items) c.self.view_is) c.args.id c.requires.there) c.index_mut-2.ensures.value) ∙ there)))
    (with_item c.self.inside.heads c.args.id c.new.result)
    (ap (slice_set c.self.inside.heads.items c.args.id) (c.new.ensures ∙ ap (λ l. head_of (c.args.id + 1) c.args.child c.sibling-sibling.result l c.push-span.result.offset) (sym c.push-span.ensures.label)))
    (with_item c.self.inside.bodies c.args.id c.replace.new.self)
    (ap (slice_set c.self.inside.bodies.items c.args.id) c.replace.ensures.new)).1
