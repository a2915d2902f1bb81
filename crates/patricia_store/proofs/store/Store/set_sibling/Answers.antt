use Rattle.std.proofs.Common.{ap, arith}
use Rattle.patricia_store.proofs.StoreLemmas.{in_heads}
use Rattle.patricia_store.proofs.ChangeLemmas.{changes_sibling}
use Rattle.patricia_store.proofs.store.Store.set_sibling.Goals as goal

pub index_mut-requires : goal.index_mut-requires
index_mut-requires g c =
    in_heads c.self.inside.heads c.self.inside.bodies c.self.inside.labels.items c.self.invariant c.args.self.now.items (ap (λ s. s.items) c.self.view_is)
    c.args.id c.requires.there

pub overflow_add-id : goal.overflow_add-id
overflow_add-id g c =
    let within = in_heads c.self.inside.heads c.self.inside.bodies c.self.inside.labels.items c.self.invariant c.args.self.now.items (ap (λ s. s.items) c.self.view_is) c.args.id c.requires.there in
    omega (arith, within, c.self.inside.heads.ok.0, c.self.invariant.few)

pub invariant_of-self : goal.invariant_of-self
invariant_of-self g c =
    (changes_sibling c.self.inside.heads c.self.inside.bodies c.self.inside.labels.items c.self.invariant c.args.self.now.items (ap (λ s. s.items) c.self.view_is)
    c.args.id c.requires.there
    c.index_mut.result.now c.index_mut.ensures.value c.args.to c.requires.link c.set_sibling.new.self c.set_sibling.ensures).0

pub returns-clause-node : goal.returns-clause-node
returns-clause-node g c =
    (changes_sibling c.self.inside.heads c.self.inside.bodies c.self.inside.labels.items c.self.invariant c.args.self.now.items (ap (λ s. s.items) c.self.view_is)
    c.args.id c.requires.there
    c.index_mut.result.now c.index_mut.ensures.value c.args.to c.requires.link c.set_sibling.new.self c.set_sibling.ensures).1
