use Rattle.std.proofs.Common.{ap, arith, length}
use Rattle.patricia_nodes.proofs.arena.NodeArena.relocate.Goals as goal

pub returns-clause-whole : goal.returns-clause-whole
returns-clause-whole g c = rw c.lay_labels-laid.ensures.items c.in_ok-relocate_nodes.ensures.whole

pub returns-clause-siblings : goal.returns-clause-siblings
returns-clause-siblings g c = rw c.lay_labels-laid.ensures.items c.in_ok-relocate_nodes.ensures.siblings

pub returns-clause-room : goal.returns-clause-room
returns-clause-room g c =
    let kept = c.in_ok-relocate_nodes.ensures.room in
    let laid = ap length c.lay_labels-laid.ensures.items in
    record {
      nodes_fit = λ room.
          let left = kept.nodes_fit room in
          (left.0, rw c.lay_labels-laid.ensures.items left.1, omega (arith, left.2, laid, c.lay_labels-laid.ensures.capacity));
      bytes_fit = omega (arith, kept.bytes_fit, c.lay_labels-laid.ensures.room);
    }
