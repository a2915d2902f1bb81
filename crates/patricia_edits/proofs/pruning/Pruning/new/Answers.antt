use Rattle.std.proofs.Common.{refl}
use Rattle.patricia_nodes.specs.declared.arena.seek.LinkRef.TheVariants.{Root}
use Rattle.patricia_edits.proofs.PruneStepLemmas.{starts}
use Rattle.patricia_edits.proofs.pruning.Pruning.new.Goals as goal

pub returns-clause-left : goal.returns-clause-left
returns-clause-left g c = starts c.args.arena.now c.requires.whole
    (record { link_ref = Root; next = c.args.arena.now.root; front = 0; path = c.in_ok-path.path; above = c.in_ok-above.above })
    c.args.longest refl refl refl
    c.in_ok-path.ensures.items c.in_ok-above.ensures.items c.in_ok-path.ensures.capacity
    c.in_ok-above.ensures.capacity c.requires.longest
