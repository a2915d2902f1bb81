use Rattle.patricia_store.proofs.LayLemmas.{are_spans, room-nodes}
use Rattle.patricia_store.proofs.store.Store.label_bytes.Goals as goal

pub needed_bytes-requires-clause-spans : goal.needed_bytes-requires-clause-spans
needed_bytes-requires-clause-spans g c =
    are_spans c.self.inside.heads.items c.self.inside.bodies.items c.self.inside.labels.items c.self.invariant

pub returns-clause-value : goal.returns-clause-value
returns-clause-value g c =
    rw (← c.self.view_is, room-nodes c.self.inside.heads.items c.self.inside.bodies.items c.self.inside.labels.items c.self.invariant.long)
    c.needed_bytes.ensures.value

pub returns-clause-more : goal.returns-clause-more
returns-clause-more g c =
    rw (← c.self.view_is, room-nodes c.self.inside.heads.items c.self.inside.bodies.items c.self.inside.labels.items c.self.invariant.long, ← c.len.ensures.value)
    c.needed_bytes.ensures.more
