use Rattle.patricia_core.proofs.tree.Tree.settle_nodes.Goals as goal

pub invariant_of-self : goal.invariant_of-self
invariant_of-self g c = record { whole = c.settle_nodes.ensures.whole; tree = rw c.settle_nodes.ensures.siblings c.self.invariant.tree }

pub returns : goal.returns
returns g c = rw c.settle_nodes.ensures.siblings c.self.view_is
