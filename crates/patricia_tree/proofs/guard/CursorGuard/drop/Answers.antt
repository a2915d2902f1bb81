use Rattle.patricia_tree.proofs.guard.CursorGuard.drop.Goals as goal

pub returns : goal.returns
returns g c = c.into_map.ensures
