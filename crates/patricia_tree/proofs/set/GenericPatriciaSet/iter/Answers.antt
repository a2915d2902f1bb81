use Rattle.patricia_tree.proofs.set.GenericPatriciaSet.iter.Goals as goal

pub returns : goal.returns
returns g c = cc
