use Rattle.patricia_tree.proofs.map.GenericPatriciaMap.get_counted.Goals as goal

pub returns : goal.returns
returns g c = rw (← c.self.view_is) c.get_counted.ensures
