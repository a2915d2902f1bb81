use Rattle.patricia_walks.proofs.LentLemmas.{last_within}
use Rattle.patricia_walks.proofs.held_tree.HeldTree.value.Goals as goal

pub value_mut-requires : goal.value_mut-requires
value_mut-requires g c =
    last_within g.K.Bytes.item c.args.self.now
    (record { whole = c.requires.whole; tree = c.requires.tree; known = c.requires.known })
    c.in-Some.id c.in-Some.ensures
