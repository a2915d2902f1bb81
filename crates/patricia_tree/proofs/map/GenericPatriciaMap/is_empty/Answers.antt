use Rattle.patricia_tree.proofs.map.GenericPatriciaMap.is_empty.Goals as goal

pub returns : goal.returns
returns g c = rw (← c.self.view_is) c.is_empty.ensures
