use Rattle.patricia_walks.proofs.along.Along.new.Goals as goal

pub returns : goal.returns
returns g c = cc
