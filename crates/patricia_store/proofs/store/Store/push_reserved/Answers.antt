use Rattle.std.proofs.Common.{◌+◌, vec_len, refl, ap, arith}
use Rattle.patricia_store.proofs.StoreLemmas.{as_many, as_many_bodies}
use Rattle.patricia_store.proofs.EndLemmas.{adds}
use Rattle.patricia_store.proofs.store.Store.push_reserved.Goals as goal

pub push-requires-clause-in_heads : goal.push-requires-clause-in_heads
push-requires-clause-in_heads g c =
    let many = as_many c.self.inside.heads c.self.inside.bodies c.self.inside.labels.items c.self.invariant c.args.self.now.items (ap (λ s. s.items) c.self.view_is) in
    omega (arith, many, c.requires.nodes, ap (λ s. s.capacity) c.self.view_is)

pub push-requires-clause-in_bodies : goal.push-requires-clause-in_bodies
push-requires-clause-in_bodies g c =
    let many = as_many_bodies c.self.inside.heads c.self.inside.bodies c.self.inside.labels.items c.self.invariant c.args.self.now.items (ap (λ s. s.items) c.self.view_is) in
    omega (arith, many, c.requires.nodes, ap (λ s. s.capacity) c.self.view_is)

pub invariant_of-self : goal.invariant_of-self
invariant_of-self g c =
    let many = as_many c.self.inside.heads c.self.inside.bodies c.self.inside.labels.items c.self.invariant c.args.self.now.items (ap (λ s. s.items) c.self.view_is) in
    (adds c.self.inside.heads.items c.self.inside.bodies.items c.self.inside.labels.items c.self.invariant c.args.self.now.items (ap (λ s. s.items) c.self.view_is)
    c.push-span.new.self.items c.push-span.ensures.extends c.args.child c.args.sibling c.requires.child c.requires.sibling c.push-span.result c.push-span.ensures.span
    c.args.label.now c.push-span.ensures.label c.args.value
    (omega (arith, many, c.requires.nodes, ap (λ s. s.capacity) c.self.view_is, c.self.inside.heads.ok.0)) (vec_len c.self.inside.heads + 1)
    (omega (arith, c.self.inside.heads.ok.0)) _ refl _ refl
    c.push.new.heads.items c.push.ensures.heads c.push.new.bodies.items c.push.ensures.bodies).0

pub returns-clause-items : goal.returns-clause-items
returns-clause-items g c =
    let many = as_many c.self.inside.heads c.self.inside.bodies c.self.inside.labels.items c.self.invariant c.args.self.now.items (ap (λ s. s.items) c.self.view_is) in
    (adds c.self.inside.heads.items c.self.inside.bodies.items c.self.inside.labels.items c.self.invariant c.args.self.now.items (ap (λ s. s.items) c.self.view_is)
    c.push-span.new.self.items c.push-span.ensures.extends c.args.child c.args.sibling c.requires.child c.requires.sibling c.push-span.result c.push-span.ensures.span
    c.args.label.now c.push-span.ensures.label c.args.value
    (omega (arith, many, c.requires.nodes, ap (λ s. s.capacity) c.self.view_is, c.self.inside.heads.ok.0)) (vec_len c.self.inside.heads + 1)
    (omega (arith, c.self.inside.heads.ok.0)) _ refl _ refl
    c.push.new.heads.items c.push.ensures.heads c.push.new.bodies.items c.push.ensures.bodies).1
