use Rattle.std.proofs.Common.{refl}
use Rattle.patricia_nodes.proofs.FreeLemmas.{there_read, hollowed}
use Rattle.patricia_nodes.proofs.arena.NodeArena.release.Goals as goal

pub returns-clause-frees : goal.returns-clause-frees
returns-clause-frees g c =
    let nodes = c.args.self.now.nodes.items in
    let emptied = c.replace_contents-value.ensures.node in
    let put = c.set_sibling.ensures.node in (
      emptied.0,
      record {
        taken = there_read nodes c.args.id emptied.0 c.requires.there emptied.1;
        nodes_is = hollowed nodes _ _ c.args.id c.args.self.now.free emptied.0 put.0 c.requires.there
            (rw (← c.none.ensures) emptied.2) put.1 put.2;
        root_is = refl;
        free_is = c.some-self.ensures;
      },
      emptied.3,
    )
