use Rattle.std.proofs.Common.{ap}
use Rattle.patricia_store.proofs.StoreLemmas.{in_heads, in_bodies}
use Rattle.patricia_store.proofs.ChangeLemmas.{takes_contents}
use Rattle.patricia_store.proofs.store.Store.take_contents.Goals as goal

pub index_mut-body-requires : goal.index_mut-body-requires
index_mut-body-requires g c =
    in_bodies c.self.inside.heads c.self.inside.bodies c.self.inside.labels.items c.self.invariant c.args.self.now.items (ap (λ s. s.items) c.self.view_is)
    c.args.id c.requires.there

pub index_mut-requires : goal.index_mut-requires
index_mut-requires g c =
    in_heads c.self.inside.heads c.self.inside.bodies c.self.inside.labels.items c.self.invariant c.args.self.now.items (ap (λ s. s.items) c.self.view_is)
    c.args.id c.requires.there

pub invariant_of-self : goal.invariant_of-self
invariant_of-self g c =
    (takes_contents c.self.inside.heads c.self.inside.bodies c.self.inside.labels.items c.self.invariant c.args.self.now.items (ap (λ s. s.items) c.self.view_is)
    c.args.id c.requires.there
    c.index_mut.result.now c.index_mut.ensures.value c.index_mut-body.result.now c.index_mut-body.ensures.value c.span-span.result c.span-span.ensures c.set_child.new.self c.set_child.ensures c.replace-value.new.self c.replace-value.ensures.new c.replace-value.result c.replace-value.ensures.old).0

pub returns-clause-node : goal.returns-clause-node
returns-clause-node g c =
    (takes_contents c.self.inside.heads c.self.inside.bodies c.self.inside.labels.items c.self.invariant c.args.self.now.items (ap (λ s. s.items) c.self.view_is)
    c.args.id c.requires.there
    c.index_mut.result.now c.index_mut.ensures.value c.index_mut-body.result.now c.index_mut-body.ensures.value c.span-span.result c.span-span.ensures c.set_child.new.self c.set_child.ensures c.replace-value.new.self c.replace-value.ensures.new c.replace-value.result c.replace-value.ensures.old).1
