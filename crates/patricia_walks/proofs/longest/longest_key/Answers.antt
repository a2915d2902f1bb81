use Rattle.patricia_nodes.proofs.SeekLemmas.{whole_plan}
use Rattle.patricia_walks.proofs.longest.longest_key.Goals as goal

pub measure_siblings-requires : goal.measure_siblings-requires
measure_siblings-requires g c = whole_plan c.args.arena.now c.requires
