use Rattle.patricia_tree.proofs.set.GenericPatriciaSet.longest_common_prefix_len.Goals as goal

pub returns : goal.returns
returns g c = rw (← c.self.view_is) c.longest_common_prefix_len.ensures
