use Rattle.patricia_tree.proofs.map.GenericPatriciaMap.longest_common_prefix_len.Goals as goal

pub returns : goal.returns
returns g c = rw (← c.self.view_is) c.reach.ensures
