use Rattle.std.proofs.Common.{[]}
use Rattle.patricia_nodes.specs.Internal.Plans.{Nil}
use Rattle.patricia_nodes.proofs.PlanLemmas.{sound_none}
use Rattle.patricia_nodes.proofs.arena.NodeArena.new.Goals as goal

pub returns-clause-whole : goal.returns-clause-whole
returns-clause-whole g c = rw (c.none.ensures, c.none-2.ensures) (Nil, ([], sound_none _ c.new.ensures))
