use Rattle.patricia_tree.proofs.set.GenericPatriciaSet.clear.Goals as goal

pub returns : goal.returns
returns g c = cc
