use Rattle.std.proofs.Common.{ap, ◌∙◌}
use Rattle.patricia_store.proofs.StoreLemmas.{as_many}
use Rattle.patricia_store.proofs.store.Store.len.Goals as goal

pub returns-clause-value : goal.returns-clause-value
returns-clause-value g c =
    c.len.ensures ∙ as_many c.self.inside.heads c.self.inside.bodies c.self.inside.labels.items c.self.invariant c.args.self.now.items (ap (λ s. s.items) c.self.view_is)
