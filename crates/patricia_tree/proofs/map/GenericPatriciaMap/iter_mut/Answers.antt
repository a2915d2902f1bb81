use Rattle.patricia_tree.proofs.map.GenericPatriciaMap.iter_mut.Goals as goal

pub returns-clause-start : goal.returns-clause-start
returns-clause-start g c = cc
