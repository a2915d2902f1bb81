use Rattle.std.proofs.Common.{[], rules}
use Rattle.patricia_nodes.specs.Internal.Plans.{Nil}
use Rattle.patricia_nodes.proofs.PlanLemmas.{sound_none}
use Rattle.patricia_nodes.proofs.arena.NodeArena.clear.Goals as goal

pub returns-clause-whole : goal.returns-clause-whole
returns-clause-whole g c = rw (c.none-self.ensures, c.none-self-2.ensures) (Nil, ([], sound_none _ c.clear.ensures))

pub returns-clause-none : goal.returns-clause-none
returns-clause-none g c = search rules
