use Rattle.std.proofs.Common.{ap, ◌∙◌}
use Rattle.patricia_store.proofs.StoreLemmas.{in_heads, in_bodies, span_read, label_read}
use Rattle.patricia_store.proofs.store.Store.label_onwards.Goals as goal

pub index-requires : goal.index-requires
index-requires g c =
    in_heads c.self.inside.heads c.self.inside.bodies c.self.inside.labels.items c.self.invariant c.args.self.now.items (ap (λ s. s.items) c.self.view_is)
    c.args.id c.requires

pub index-requires-2 : goal.index-requires-2
index-requires-2 g c =
    in_bodies c.self.inside.heads c.self.inside.bodies c.self.inside.labels.items c.self.invariant c.args.self.now.items (ap (λ s. s.items) c.self.view_is)
    c.args.id c.requires

pub get_onwards-requires : goal.get_onwards-requires
get_onwards-requires g c =
    span_read c.self.inside.heads c.self.inside.bodies c.self.inside.labels.items c.self.invariant c.args.self.now.items (ap (λ s. s.items) c.self.view_is)
    c.args.id c.requires c.index.result.now c.index.ensures c.index-2.result.now c.index-2.ensures c.span_of-span.result c.span_of-span.ensures

pub returns-clause-node : goal.returns-clause-node
returns-clause-node g c n reads =
    c.get_onwards.ensures.label
    ∙ label_read c.self.inside.heads c.self.inside.bodies c.self.inside.labels.items c.self.invariant c.args.self.now.items (ap (λ s. s.items) c.self.view_is)
    c.args.id c.requires c.index.result.now c.index.ensures c.index-2.result.now c.index-2.ensures c.span_of-span.result c.span_of-span.ensures n reads
