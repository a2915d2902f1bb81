use Rattle.patricia_tree.proofs.map.GenericPatriciaMap.values.Goals as goal

pub returns : goal.returns
returns g c = cc
