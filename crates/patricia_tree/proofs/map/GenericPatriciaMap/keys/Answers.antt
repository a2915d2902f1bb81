use Rattle.patricia_tree.proofs.map.GenericPatriciaMap.keys.Goals as goal

pub returns : goal.returns
returns g c = cc
