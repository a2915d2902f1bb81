use Rattle.std.proofs.Common.{sym, ap, subst, ◌∙◌}
use Rattle.patricia_store.specs.Internal.Nodes.{IsLink}
use Rattle.patricia_store.proofs.StoreLemmas.{in_heads, reads_child, links_read}
use Rattle.patricia_store.proofs.store.Store.child.Goals as goal

pub index-requires : goal.index-requires
index-requires g c =
    in_heads c.self.inside.heads c.self.inside.bodies c.self.inside.labels.items c.self.invariant c.args.self.now.items (ap (λ s. s.items) c.self.view_is)
    c.args.id c.requires

pub returns-clause-node : goal.returns-clause-node
returns-clause-node g c n reads =
    c.child.ensures.value
    ∙ reads_child c.self.inside.heads c.self.inside.bodies c.self.inside.labels.items c.self.invariant c.args.self.now.items (ap (λ s. s.items) c.self.view_is)
    c.args.id c.requires c.index.result.now c.index.ensures n reads

pub returns-clause-link : goal.returns-clause-link
returns-clause-link g c =
    subst IsLink (sym c.child.ensures.value)
    (links_read c.self.inside.heads c.self.inside.bodies c.self.inside.labels.items c.self.invariant c.args.self.now.items (ap (λ s. s.items) c.self.view_is)
    c.args.id c.requires c.index.result.now c.index.ensures)
