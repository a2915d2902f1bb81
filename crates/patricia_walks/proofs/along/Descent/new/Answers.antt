use Rattle.std.proofs.Common.{refl}
use Rattle.std.specs.Option.{option_copied}
use Rattle.patricia_nodes.specs.Internal.Plans.{siblings_of}
use Rattle.patricia_walks.proofs.AlongLemmas.{descent_start, left_start}
use Rattle.patricia_walks.proofs.along.Descent.new.Goals as goal

pub returns-clause-descent : goal.returns-clause-descent
returns-clause-descent g c = descent_start g.K.Bytes.item c.args.key.now _ c.args.arena.now refl refl refl c.requires.whole c.requires.siblings

pub returns-clause-left : goal.returns-clause-left
returns-clause-left g c = left_start c.args.key.now (option_copied c.args.pending) (siblings_of c.args.arena.now)
