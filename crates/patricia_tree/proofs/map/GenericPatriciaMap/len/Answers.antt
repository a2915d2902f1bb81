use Rattle.patricia_tree.proofs.map.GenericPatriciaMap.len.Goals as goal

pub returns : goal.returns
returns g c = cc
