use Rattle.patricia_tree.proofs.router.Router.drop_prefix.Goals as goal

pub returns-clause-count : goal.returns-clause-count
returns-clause-count g c = rw (← c.self.view_is) c.remove_prefix.ensures.count

pub returns-clause-left : goal.returns-clause-left
returns-clause-left g c = rw (← c.self.view_is) c.remove_prefix.ensures.left
