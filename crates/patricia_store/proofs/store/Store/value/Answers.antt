use Rattle.std.proofs.Common.{ap, ◌∙◌}
use Rattle.patricia_store.proofs.StoreLemmas.{in_bodies, reads_value}
use Rattle.patricia_store.proofs.store.Store.value.Goals as goal

pub index-requires : goal.index-requires
index-requires g c =
    in_bodies c.self.inside.heads c.self.inside.bodies c.self.inside.labels.items c.self.invariant c.args.self.now.items (ap (λ s. s.items) c.self.view_is)
    c.args.id c.requires

pub returns : goal.returns
returns g c n reads =
    c.value.ensures
    ∙ reads_value c.self.inside.heads c.self.inside.bodies c.self.inside.labels.items c.self.invariant c.args.self.now.items (ap (λ s. s.items) c.self.view_is)
    c.args.id c.requires c.index.result.now c.index.ensures n reads
