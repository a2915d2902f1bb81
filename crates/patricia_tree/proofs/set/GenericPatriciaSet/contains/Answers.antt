use Rattle.patricia_tree.proofs.set.GenericPatriciaSet.contains.Goals as goal

pub returns : goal.returns
returns g c = rw (← c.self.view_is) c.contains_key.ensures
