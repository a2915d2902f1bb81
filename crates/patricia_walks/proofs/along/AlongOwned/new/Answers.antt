use Rattle.patricia_walks.proofs.along.AlongOwned.new.Goals as goal

pub returns : goal.returns
returns g c = cc
