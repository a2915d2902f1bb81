use Rattle.patricia_edits.proofs.KeptLemmas.{nodes_kept}
use Rattle.patricia_edits.proofs.copying.copy_in_place.Goals as goal

pub try_clone-requires : goal.try_clone-requires
try_clone-requires g c i n is = nodes_kept g.V.Clone.is_clone c.args.arena.now c.requires.whole c.requires.none_free c.requires.cloned i n is
