use Rattle.std.proofs.Common.{arith}
use Rattle.patricia_nodes.proofs.arena.NodeArena.settle_nodes.Goals as goal
use Rattle.patricia_nodes.proofs.arena.NodeArena.settle_nodes.Goals.{then-len-ge-FEWEST_TO_RELOCATE}
use Rattle.patricia_nodes.proofs.arena.NodeArena.settle_nodes.Goals.{else-len-ge-FEWEST_TO_RELOCATE}

pub returns-clause-room : goal.returns-clause-room
returns-clause-room g c =
    elim c.if-len-ge-FEWEST_TO_RELOCATE.branch [
      | then-len-ge-FEWEST_TO_RELOCATE w ↦ rw w.self-is (let kept = w.relocate_nodes-relocated.ensures.room in record { nodes_fit = kept.nodes_fit; bytes_fit = kept.bytes_fit })
      | else-len-ge-FEWEST_TO_RELOCATE w ↦ rw w.self-is (record { nodes_fit = λ room. room; bytes_fit = omega arith })
    ]
