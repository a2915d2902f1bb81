use Rattle.std.proofs.Common.{length, ap, ◌∙◌, arith, sym}
use Rattle.patricia_store.proofs.StoreLemmas.{as_many, as_many_bodies}
use Rattle.patricia_store.proofs.RearrangeLemmas.{rearranged}
use Rattle.patricia_store.proofs.store.Store.rearrange.Goals as goal

pub renumber-requires : goal.renumber-requires
renumber-requires g c =
    let many = as_many c.self.inside.heads c.self.inside.bodies c.self.inside.labels.items c.self.invariant c.args.self.now.items (ap (λ s. s.items) c.self.view_is) in
    ap length c.as_slice.ensures.value ∙ c.requires.inverse.long ∙ c.requires.long ∙ sym many

pub arrange-requires-clause-heads : goal.arrange-requires-clause-heads
arrange-requires-clause-heads g c =
    let many = as_many c.self.inside.heads c.self.inside.bodies c.self.inside.labels.items c.self.invariant c.args.self.now.items (ap (λ s. s.items) c.self.view_is) in
    omega (arith, c.requires.long, many, c.renumber.ensures.items.long, c.renumber.new.heads.ok.0, c.self.inside.heads.ok.0)

pub arrange-requires-clause-bodies : goal.arrange-requires-clause-bodies
arrange-requires-clause-bodies g c =
    let many = as_many_bodies c.self.inside.heads c.self.inside.bodies c.self.inside.labels.items c.self.invariant c.args.self.now.items (ap (λ s. s.items) c.self.view_is) in
    omega (arith, c.requires.long, many)

pub invariant_of-self : goal.invariant_of-self
invariant_of-self g c =
    (rearranged c.self.inside.heads.items c.self.inside.bodies.items c.self.inside.labels.items c.self.invariant c.args.self.now.items (ap (λ s. s.items) c.self.view_is)
    c.args.order.items c.args.places.items c.requires.inverse c.requires.long c.renumber.new.heads.items c.arrange.ensures.heads.0 c.arrange.ensures.bodies.0
    (rw c.as_slice.ensures.value at c.renumber.ensures.items) c.arrange.ensures.heads.1 c.arrange.ensures.bodies.1 c.args.used
    c.arrange.new.heads.items c.arrange.ensures.heads.2 c.arrange.new.bodies.items c.arrange.ensures.bodies.2).0

pub returns-clause-items : goal.returns-clause-items
returns-clause-items g c =
    (rearranged c.self.inside.heads.items c.self.inside.bodies.items c.self.inside.labels.items c.self.invariant c.args.self.now.items (ap (λ s. s.items) c.self.view_is)
    c.args.order.items c.args.places.items c.requires.inverse c.requires.long c.renumber.new.heads.items c.arrange.ensures.heads.0 c.arrange.ensures.bodies.0
    (rw c.as_slice.ensures.value at c.renumber.ensures.items) c.arrange.ensures.heads.1 c.arrange.ensures.bodies.1 c.args.used
    c.arrange.new.heads.items c.arrange.ensures.heads.2 c.arrange.new.bodies.items c.arrange.ensures.bodies.2).1
