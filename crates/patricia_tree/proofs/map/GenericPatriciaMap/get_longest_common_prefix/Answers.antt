use Rattle.patricia_tree.proofs.map.GenericPatriciaMap.get_longest_common_prefix.Goals as goal

pub returns : goal.returns
returns g c = rw (← c.self.view_is) c.longest.ensures
