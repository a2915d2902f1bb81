use Rattle.std.proofs.Common.{length, ap, ◌∙◌, length-set}
use Rattle.patricia_nodes.proofs.FreeLemmas.{leaf_within, spot_of_leaf, unlinks}
use Rattle.patricia_nodes.proofs.MergeLemmas.{holds_free, leaf_sibling}
use Rattle.patricia_nodes.proofs.NodeVecLemmas.{node_there, reads_there}
use Rattle.patricia_nodes.proofs.arena.NodeArena.unlink.Goals as goal

pub sibling-sibling-requires : goal.sibling-sibling-requires
sibling-sibling-requires g c = leaf_within c.args.self.now c.args.link_ref c.args.id c.requires

pub release-value-requires-clause-there : goal.release-value-requires-clause-there
release-value-requires-clause-there g c = leaf_within c.args.self.now c.args.link_ref c.args.id c.requires

pub release-value-requires-clause-free : goal.release-value-requires-clause-free
release-value-requires-clause-free g c = holds_free c.args.self.now _ c.requires.5

pub relink-requires-clause-there : goal.relink-requires-clause-there
relink-requires-clause-there g c =
    spot_of_leaf c.args.self.now c.release-value.new.self c.args.link_ref c.args.id _ c.release-value.ensures.frees.1 c.requires

pub relink-requires-clause-within : goal.relink-requires-clause-within
relink-requires-clause-within g c =
    let n = node_there c.args.self.now.nodes.items c.args.id (leaf_within c.args.self.now c.args.link_ref c.args.id c.requires) in
    let long = ap length c.release-value.ensures.frees.1.nodes_is ∙ length-set c.args.self.now.nodes.items c.args.id _ in
    rw (c.sibling-sibling.ensures.node n.0 n.1, long)
    (leaf_sibling c.args.self.now c.args.link_ref c.args.id n.0 c.requires n.1)

pub returns-clause-unlinks : goal.returns-clause-unlinks
returns-clause-unlinks g c =
    let frees = c.release-value.ensures.frees in
    let beside = c.sibling-sibling.ensures.node frees.0 (reads_there c.args.self.now.nodes.items c.args.id frees.0 frees.1.taken) in
    rw frees.2
    (unlinks c.args.self.now c.release-value.new.self c.relink.new.self c.args.link_ref c.args.id frees.0
    frees.1 c.relink.ensures.free (rw beside at c.relink.ensures.relinks))
