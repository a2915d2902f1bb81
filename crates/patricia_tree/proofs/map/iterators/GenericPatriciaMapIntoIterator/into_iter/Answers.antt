use Rattle.patricia_tree.proofs.map.iterators.GenericPatriciaMapIntoIterator.into_iter.Goals as goal

pub returns : goal.returns
returns g c = record { into_iter_gives = rw (← c.self.view_is) c.into_walk.ensures }
