use Rattle.patricia_wire.proofs.SiblingsTrees.{tree_of, stands_tree}
use Rattle.patricia_wire.proofs.TightSiblings.{apart_within, within_apart}
use Rattle.patricia_wire.proofs.siblings.trees_are_siblings.Goals as goal

pub returns-clause-tree : goal.returns-clause-tree
returns-clause-tree g c = tree_of g.K.Bytes.item

pub returns-clause-tight : goal.returns-clause-tight
returns-clause-tight g c v r ok = (apart_within g.K.Bytes.item 1 r ok, within_apart g.K.Bytes.item 1 r)

pub returns-clause-siblings : goal.returns-clause-siblings
returns-clause-siblings g c R S root =
    let tree = stands_tree g.K.Bytes.item R S root in
    (tree.value, tree.siblings, tree.ok, tree.records, tree.keys)
