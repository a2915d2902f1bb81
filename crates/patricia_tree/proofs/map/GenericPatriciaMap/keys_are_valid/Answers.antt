use Rattle.patricia_tree.proofs.map.GenericPatriciaMap.keys_are_valid.Goals as goal

pub returns-clause-valid : goal.returns-clause-valid
returns-clause-valid g c = rw (← c.self.view_is) c.keys_are_valid.ensures.valid
