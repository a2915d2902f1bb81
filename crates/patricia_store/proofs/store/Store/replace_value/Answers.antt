use Rattle.std.proofs.Common.{ap}
use Rattle.patricia_store.proofs.StoreLemmas.{in_bodies}
use Rattle.patricia_store.proofs.ChangeLemmas.{changes_value}
use Rattle.patricia_store.proofs.store.Store.replace_value.Goals as goal

pub index_mut-body-requires : goal.index_mut-body-requires
index_mut-body-requires g c =
    in_bodies c.self.inside.heads c.self.inside.bodies c.self.inside.labels.items c.self.invariant c.args.self.now.items (ap (λ s. s.items) c.self.view_is)
    c.args.id c.requires.there

pub invariant_of-self : goal.invariant_of-self
invariant_of-self g c =
    (changes_value c.self.inside.heads c.self.inside.bodies c.self.inside.labels.items c.self.invariant c.args.self.now.items (ap (λ s. s.items) c.self.view_is)
    c.args.id c.requires.there
    c.index_mut-body.result.now c.index_mut-body.ensures.value c.span-span.result c.span-span.ensures c.args.value c.replace.new.self c.replace.ensures.new c.replace.result c.replace.ensures.old).0

pub returns-clause-node : goal.returns-clause-node
returns-clause-node g c =
    (changes_value c.self.inside.heads c.self.inside.bodies c.self.inside.labels.items c.self.invariant c.args.self.now.items (ap (λ s. s.items) c.self.view_is)
    c.args.id c.requires.there
    c.index_mut-body.result.now c.index_mut-body.ensures.value c.span-span.result c.span-span.ensures c.args.value c.replace.new.self c.replace.ensures.new c.replace.result c.replace.ensures.old).1
