use Rattle.patricia_tree.proofs.map.GenericPatriciaMap.common_prefix_values.Goals as goal

pub returns : goal.returns
returns g c = cc
