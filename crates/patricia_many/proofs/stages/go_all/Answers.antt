use Rattle.patricia_many.proofs.AheadLemmas.{finds_alone}
use Rattle.patricia_many.proofs.stages.go_all.Goals as goal

pub read_heads-requires-clause-keys : goal.read_heads-requires-clause-keys
read_heads-requires-clause-keys g c k key l keyed at = finds_alone g.Q.Owned.Bytes.item c.args.arena.now c.args.by_prefix key l (c.requires.keys k key l keyed at)

pub go_to_labels-going-requires-clause-keys : goal.go_to_labels-going-requires-clause-keys
go_to_labels-going-requires-clause-keys g c = c.read_heads.ensures.keys c.args.by_prefix c.requires.keys

pub read_labels-requires-clause-keys : goal.read_labels-requires-clause-keys
read_labels-requires-clause-keys g c k key l keyed at = finds_alone g.Q.Owned.Bytes.item c.args.arena.now c.args.by_prefix key l (c.go_to_labels-going.ensures.keys k key l keyed at)

pub go_past_labels-requires-clause-keys : goal.go_past_labels-requires-clause-keys
go_past_labels-requires-clause-keys g c = c.read_labels.ensures.keys c.args.by_prefix c.go_to_labels-going.ensures.keys
