use Rattle.patricia_tree.proofs.map.GenericPatriciaMap.insert.Goals as goal

pub returns : goal.returns
returns g c = rw (← c.self.view_is) c.insert.ensures
