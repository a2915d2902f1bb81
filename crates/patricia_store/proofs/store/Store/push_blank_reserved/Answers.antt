use Rattle.std.proofs.Common.{◌+◌, vec_len, [], None, refl, ap, arith}
use Rattle.patricia_store.specs.Internal.Packing.{packed}
use Rattle.patricia_store.proofs.PackingLemmas.{number-packed}
use Rattle.patricia_store.proofs.LabelLemmas.{empty_span, extends_none}
use Rattle.patricia_store.proofs.StoreLemmas.{as_many, as_many_bodies}
use Rattle.patricia_store.proofs.EndLemmas.{adds}
use Rattle.patricia_store.proofs.store.Store.push_blank_reserved.Goals as goal

pub push_blank-requires-clause-in_heads : goal.push_blank-requires-clause-in_heads
push_blank-requires-clause-in_heads g c =
    let many = as_many c.self.inside.heads c.self.inside.bodies c.self.inside.labels.items c.self.invariant c.args.self.now.items (ap (λ s. s.items) c.self.view_is) in
    omega (arith, many, c.requires, ap (λ s. s.capacity) c.self.view_is)

pub push_blank-requires-clause-in_bodies : goal.push_blank-requires-clause-in_bodies
push_blank-requires-clause-in_bodies g c =
    let many = as_many_bodies c.self.inside.heads c.self.inside.bodies c.self.inside.labels.items c.self.invariant c.args.self.now.items (ap (λ s. s.items) c.self.view_is) in
    omega (arith, many, c.requires, ap (λ s. s.capacity) c.self.view_is)

pub invariant_of-self : goal.invariant_of-self
invariant_of-self g c =
    let many = as_many c.self.inside.heads c.self.inside.bodies c.self.inside.labels.items c.self.invariant c.args.self.now.items (ap (λ s. s.items) c.self.view_is) in
    (adds c.self.inside.heads.items c.self.inside.bodies.items c.self.inside.labels.items c.self.invariant c.args.self.now.items (ap (λ s. s.items) c.self.view_is)
    c.self.inside.labels.items (extends_none c.self.inside.labels.items) None None tt tt (record { len = 0; offset = packed 0 })
    (empty_span c.self.inside.labels.items (packed 0) (number-packed 0)) [] refl None
    (omega (arith, many, c.requires, ap (λ s. s.capacity) c.self.view_is, c.self.inside.heads.ok.0)) (vec_len c.self.inside.heads + 1)
    (omega (arith, c.self.inside.heads.ok.0)) _ refl _ refl
    c.push_blank.new.heads.items c.push_blank.ensures.heads c.push_blank.new.bodies.items c.push_blank.ensures.bodies).0

pub returns-clause-items : goal.returns-clause-items
returns-clause-items g c =
    let many = as_many c.self.inside.heads c.self.inside.bodies c.self.inside.labels.items c.self.invariant c.args.self.now.items (ap (λ s. s.items) c.self.view_is) in
    (adds c.self.inside.heads.items c.self.inside.bodies.items c.self.inside.labels.items c.self.invariant c.args.self.now.items (ap (λ s. s.items) c.self.view_is)
    c.self.inside.labels.items (extends_none c.self.inside.labels.items) None None tt tt (record { len = 0; offset = packed 0 })
    (empty_span c.self.inside.labels.items (packed 0) (number-packed 0)) [] refl None
    (omega (arith, many, c.requires, ap (λ s. s.capacity) c.self.view_is, c.self.inside.heads.ok.0)) (vec_len c.self.inside.heads + 1)
    (omega (arith, c.self.inside.heads.ok.0)) _ refl _ refl
    c.push_blank.new.heads.items c.push_blank.ensures.heads c.push_blank.new.bodies.items c.push_blank.ensures.bodies).1
