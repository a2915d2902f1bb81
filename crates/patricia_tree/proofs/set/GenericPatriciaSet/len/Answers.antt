use Rattle.patricia_tree.proofs.set.GenericPatriciaSet.len.Goals as goal

pub returns : goal.returns
returns g c = rw (← c.self.view_is) c.len.ensures
