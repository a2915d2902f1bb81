use Rattle.patricia_tree.proofs.router.Router.len.Goals as goal

pub returns : goal.returns
returns g c = rw (← c.self.view_is) c.len.ensures
