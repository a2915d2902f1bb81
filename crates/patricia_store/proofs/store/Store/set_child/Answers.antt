use Rattle.std.proofs.Common.{ap}
use Rattle.patricia_store.proofs.StoreLemmas.{in_heads, in_bodies}
use Rattle.patricia_store.proofs.ChangeLemmas.{changes_child}
use Rattle.patricia_store.proofs.store.Store.set_child.Goals as goal

pub index-requires : goal.index-requires
index-requires g c =
    in_bodies c.self.inside.heads c.self.inside.bodies c.self.inside.labels.items c.self.invariant c.args.self.now.items (ap (λ s. s.items) c.self.view_is)
    c.args.id c.requires.there

pub index_mut-requires : goal.index_mut-requires
index_mut-requires g c =
    in_heads c.self.inside.heads c.self.inside.bodies c.self.inside.labels.items c.self.invariant c.args.self.now.items (ap (λ s. s.items) c.self.view_is)
    c.args.id c.requires.there

pub invariant_of-self : goal.invariant_of-self
invariant_of-self g c =
    (changes_child c.self.inside.heads c.self.inside.bodies c.self.inside.labels.items c.self.invariant c.args.self.now.items (ap (λ s. s.items) c.self.view_is)
    c.args.id c.requires.there
    c.index_mut.result.now c.index_mut.ensures.value c.index.result.now c.index.ensures c.args.to c.requires.link c.offset_of-offset.result c.offset_of-offset.ensures c.set_child.new.self c.set_child.ensures).0

pub returns-clause-node : goal.returns-clause-node
returns-clause-node g c =
    (changes_child c.self.inside.heads c.self.inside.bodies c.self.inside.labels.items c.self.invariant c.args.self.now.items (ap (λ s. s.items) c.self.view_is)
    c.args.id c.requires.there
    c.index_mut.result.now c.index_mut.ensures.value c.index.result.now c.index.ensures c.args.to c.requires.link c.offset_of-offset.result c.offset_of-offset.ensures c.set_child.new.self c.set_child.ensures).1
