use Rattle.patricia_tree.proofs.router.Router.route.Goals as goal

pub returns : goal.returns
returns g c = rw (← c.self.view_is) c.get_longest_common_prefix.ensures
