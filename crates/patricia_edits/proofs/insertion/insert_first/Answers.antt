use Rattle.std.proofs.Common.{Some, None, refl, ap, length, arith}
use Rattle.patricia_store.specs.Internal.Nodes.{Node}
use Rattle.patricia_store.specs.Internal.Labels.{label_room}
use Rattle.patricia_nodes.specs.Internal.Plans.{linked}
use Rattle.patricia_nodes.proofs.SeekLemmas.{ready_at, ready_here}
use Rattle.patricia_edits.proofs.PutLemmas.{puts_first, place_link_ref, at_within, room_within}
use Rattle.patricia_edits.proofs.insertion.insert_first.Goals as goal

pub add-requires : goal.add-requires
add-requires g c =
    let here = ready_here g.met.Q.Owned.Bytes.lawful c.requires.ready in
    record {
      room = room_within (c.requires.room 0) (omega arith)
          (omega (arith, ap (λ xs. label_room (length xs)) c.as_bytes.ensures.value));
      link_ref = place_link_ref here;
      sibling = at_within here;
    }

pub returns-clause-puts : goal.returns-clause-puts
returns-clause-puts g c = λ key p.
    let leaf : Node g.row.V.Denot = linked c.as_bytes.result.now (Some c.args.value) None c.args.place.now.at in
    puts_first (ready_at g.met.Q.Owned.Bytes.lawful c.requires.ready key p) c.add.new.arena
    c.args.value leaf c.add.result c.requires.gap c.as_bytes.ensures.valid
    c.as_bytes.ensures.value refl refl refl c.add.ensures.adds
