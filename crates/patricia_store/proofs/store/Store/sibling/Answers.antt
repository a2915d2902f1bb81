use Rattle.std.proofs.Common.{ap, ◌∙◌}
use Rattle.patricia_store.proofs.StoreLemmas.{in_heads, reads_sibling}
use Rattle.patricia_store.proofs.store.Store.sibling.Goals as goal

pub index-requires : goal.index-requires
index-requires g c =
    in_heads c.self.inside.heads c.self.inside.bodies c.self.inside.labels.items c.self.invariant c.args.self.now.items (ap (λ s. s.items) c.self.view_is)
    c.args.id c.requires

pub returns-clause-node : goal.returns-clause-node
returns-clause-node g c n reads =
    c.sibling.ensures.value
    ∙ reads_sibling c.self.inside.heads c.self.inside.bodies c.self.inside.labels.items c.self.invariant c.args.self.now.items (ap (λ s. s.items) c.self.view_is)
    c.args.id c.requires c.index.result.now c.index.ensures n reads
