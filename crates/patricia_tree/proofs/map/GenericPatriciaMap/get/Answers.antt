use Rattle.patricia_tree.proofs.map.GenericPatriciaMap.get.Goals as goal

pub returns : goal.returns
returns g c = cc
