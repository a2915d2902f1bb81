use Rattle.std.proofs.Common.{arith}
use Rattle.patricia_core.proofs.PointNodes.{node_each}
use Rattle.patricia_core.proofs.tree.Tree.slots.Goals as goal

pub returns : goal.returns
returns g c =
    let nodes = node_each g.K.Bytes.item g.met.K.Bytes.lawful c.self.inside.parts.value c.self.inside.parts.arena c.self.invariant.whole c.self.invariant.tree.canonical in
    rw (← c.self.view_is) (nodes.0, nodes.1, omega (arith, nodes.2, c.node_count.ensures))
