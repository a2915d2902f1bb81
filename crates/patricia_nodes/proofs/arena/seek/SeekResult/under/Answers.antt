use Rattle.std.proofs.Common.{rules}
use Rattle.patricia_nodes.proofs.arena.seek.SeekResult.under.Goals as goal

pub returns-in-InsideLabel : goal.returns-in-InsideLabel
returns-in-InsideLabel g c = search rules
