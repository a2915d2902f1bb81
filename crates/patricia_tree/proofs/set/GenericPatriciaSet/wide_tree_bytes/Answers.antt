use Rattle.patricia_tree.proofs.set.GenericPatriciaSet.wide_tree_bytes.Goals as goal

pub returns-clause-ok : goal.returns-clause-ok
returns-clause-ok g c = rw (← c.self.view_is) c.wide_tree_bytes.ensures.ok

pub returns-clause-too_deep : goal.returns-clause-too_deep
returns-clause-too_deep g c = rw (← c.self.view_is) c.wide_tree_bytes.ensures.too_deep
