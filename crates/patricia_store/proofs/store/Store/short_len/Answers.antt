use Rattle.std.proofs.Common.{ap, ◌∙◌}
use Rattle.patricia_store.proofs.StoreLemmas.{in_heads, reads_short}
use Rattle.patricia_store.proofs.store.Store.short_len.Goals as goal

pub index-requires : goal.index-requires
index-requires g c =
    in_heads c.self.inside.heads c.self.inside.bodies c.self.inside.labels.items c.self.invariant c.args.self.now.items (ap (λ s. s.items) c.self.view_is)
    c.args.id c.requires

pub returns : goal.returns
returns g c n reads =
    c.short_len.ensures
    ∙ reads_short c.self.inside.heads c.self.inside.bodies c.self.inside.labels.items c.self.invariant c.args.self.now.items (ap (λ s. s.items) c.self.view_is)
    c.args.id c.requires c.index.result.now c.index.ensures n reads
