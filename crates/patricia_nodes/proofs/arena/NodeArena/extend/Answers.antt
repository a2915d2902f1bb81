use Rattle.std.proofs.Common.{ap, arith, length}
use Rattle.patricia_nodes.proofs.RoomLemmas.{on_ok_both, room_kept, room_behind}
use Rattle.patricia_nodes.proofs.arena.NodeArena.extend.Goals as goal
use Rattle.patricia_nodes.proofs.arena.NodeArena.extend.Goals.{then-has_room, else-has_room}

pub returns-clause-room : goal.returns-clause-room
returns-clause-room g c =
    let s = c.args.self.now in
    let new = c.reserve.new.self in
    on_ok_both c.reserve.result
    (λ longer fits. record {
      nodes_fit = rw c.reserve.ensures.items (elim c.if-has_room.branch [
        | then-has_room w ↦ room_kept s.nodes.items s.free s.nodes.capacity new.capacity 2 c.reserve.ensures.capacity (c.has_room.ensures w.if-has_room.true).nodes_fit
        | else-has_room w ↦ room_behind s.nodes.items s.root s.free c.requires.0 c.requires.1.0 new.capacity 2 c.requires.1.1
            (omega (arith, longer, w.more-is, ap length c.reserve.ensures.items))
      ]);
      bytes_fit = fits;
    })
    c.reserve.ensures.nodes c.reserve.ensures.bytes
