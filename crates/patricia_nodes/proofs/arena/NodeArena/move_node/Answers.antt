use Rattle.std.proofs.Common.{length, None, refl, ap, arith}
use Rattle.patricia_store.specs.Internal.Labels.{label_room}
use Rattle.patricia_store.specs.Internal.Nodes.{Node}
use Rattle.patricia_nodes.proofs.PlanLemmas.{node_is}
use Rattle.patricia_nodes.proofs.FreeLemmas.{there_read, written_reads, frees_emptied, pushed_node}
use Rattle.patricia_nodes.proofs.arena.NodeArena.move_node.Goals as goal

pub push_reserved-requires-clause-bytes : goal.push_reserved-requires-clause-bytes
push_reserved-requires-clause-bytes g c =
    let taken = c.replace_value-value.ensures.node in
    let n = taken.0 in
    let written = written_reads c.args.self.now.nodes.items _ c.args.id _ c.requires.there taken.2 in
    rw (c.label.ensures _ written) (c.requires.bytes n taken.1)

pub returns-clause-moves : goal.returns-clause-moves
returns-clause-moves g c =
    let taken = c.replace_value-value.ensures.node in
    let n = taken.0 in
    let written = written_reads c.args.self.now.nodes.items _ c.args.id _ c.requires.there taken.2 in
    let there = there_read c.args.self.now.nodes.items c.args.id n c.requires.there taken.1 in (
      n,
      frees_emptied c.args.self.now _ c.release-none.new.self c.args.id None n _ there taken.2 refl
          refl c.release-none.ensures.frees.1,
      pushed_node c.args.to.now.items _ _ _ _ c.args.sibling n (c.label.ensures _ written) taken.3
          (c.child-child.ensures.node n taken.1) c.push_reserved.ensures.items,
    )

pub returns-clause-bytes : goal.returns-clause-bytes
returns-clause-bytes g c n reads =
    let taken = c.replace_value-value.ensures.node in
    let written = written_reads c.args.self.now.nodes.items _ c.args.id _ c.requires.there taken.2 in
    let there = there_read c.args.self.now.nodes.items c.args.id taken.0 c.requires.there taken.1 in
    let same = node_is c.args.self.now.nodes.items c.args.id n taken.0 there reads in
    let label = ap (λ xs. label_room (length xs)) (c.label.ensures _ written) in
    let named = ap (λ (x : Node g.row.V.Denot). label_room (length x.label)) same in
    omega (arith, c.push_reserved.ensures.room, label, named)
