use Rattle.std.proofs.Common.{refl, sym, subst, ◌∙◌}
use Rattle.patricia_model.specs.Siblings.{IsCanonical}
use Rattle.patricia_nodes.specs.Internal.Writes.{Stays, HasRoomFor}
use Rattle.patricia_nodes.proofs.ResumeLemmas.{placed_of}
use Rattle.patricia_nodes.proofs.SeekLemmas.{sought_at}
use Rattle.patricia_edits.proofs.AlongLemmas.{behind_none, behind_stays, trail_stays, trail_to}
use Rattle.patricia_edits.proofs.PutLemmas.{room_to_put, ok_of}
use Rattle.patricia_edits.proofs.StayLemmas.{all_stays, siblings_stay, whole_stays}
use Rattle.patricia_edits.proofs.insertion.insert_missing.Goals as goal
use Rattle.patricia_edits.proofs.insertion.insert_missing.Goals.{else-not-has_room-via-then-not-has_room+else-is_err, else-not-has_room-via-else-not-has_room}

pub returns-then-is_err-clause-trail : goal.returns-then-is_err-clause-trail
returns-then-is_err-clause-trail g c = λ trail behind.
    trail_stays behind c.extend.new.self c.extend.ensures.stays

pub insert_at-none-requires-clause-room : goal.insert_at-none-requires-clause-room
insert_at-none-requires-clause-room g c =
    λ none.
    let stays : Stays c.args.arena.now c.else-not-has_room.arena = elim c.else-not-has_room.branch [
      | else-not-has_room-via-then-not-has_room+else-is_err w ↦ rw w.arena-is w.extend.ensures.stays
      | else-not-has_room-via-else-not-has_room w ↦ rw w.arena-is (all_stays c.args.arena.now)
    ] in
    let place = behind_stays (behind_none c.requires.place) c.else-not-has_room.arena stays in
    let room : HasRoomFor c.else-not-has_room.arena 2 c.in-Some.bytes = elim c.else-not-has_room.branch [
      | else-not-has_room-via-then-not-has_room+else-is_err w ↦ rw w.arena-is (ok_of w.extend.result w.extend.ensures.room (sym w.if-is_err.false ∙ w.is_err.ensures.value))
      | else-not-has_room-via-else-not-has_room w ↦ rw w.arena-is (w.if-not-has_room.ensures refl)
    ] in
    let enough = rw c.as_bytes.ensures.value at c.in-Some.ensures in
    let ok = subst (IsCanonical g.Q.Owned.Bytes.item) (sym (siblings_stay stays)) c.requires.siblings in
    room_to_put (sought_at g.met.Q.Owned.Bytes.lawful (whole_stays stays c.requires.whole) ok (placed_of place)) room enough

pub returns-clause-whole : goal.returns-clause-whole
returns-clause-whole g c =
    let stays : Stays c.args.arena.now c.else-not-has_room.arena = elim c.else-not-has_room.branch [
      | else-not-has_room-via-then-not-has_room+else-is_err w ↦ rw w.arena-is w.extend.ensures.stays
      | else-not-has_room-via-else-not-has_room w ↦ rw w.arena-is (all_stays c.args.arena.now)
    ] in
    let place = behind_stays (behind_none c.requires.place) c.else-not-has_room.arena stays in
    (c.insert_at-none.ensures.puts (g.Q.BorrowedBytes.key c.args.key) (placed_of place)).0.whole

pub returns-clause-siblings : goal.returns-clause-siblings
returns-clause-siblings g c =
    let stays : Stays c.args.arena.now c.else-not-has_room.arena = elim c.else-not-has_room.branch [
      | else-not-has_room-via-then-not-has_room+else-is_err w ↦ rw w.arena-is w.extend.ensures.stays
      | else-not-has_room-via-else-not-has_room w ↦ rw w.arena-is (all_stays c.args.arena.now)
    ] in
    let place = behind_stays (behind_none c.requires.place) c.else-not-has_room.arena stays in
    (c.insert_at-none.ensures.puts (g.Q.BorrowedBytes.key c.args.key) (placed_of place)).0.canonical

pub returns-clause-ok : goal.returns-clause-ok
returns-clause-ok g c =
    let stays : Stays c.args.arena.now c.else-not-has_room.arena = elim c.else-not-has_room.branch [
      | else-not-has_room-via-then-not-has_room+else-is_err w ↦ rw w.arena-is w.extend.ensures.stays
      | else-not-has_room-via-else-not-has_room w ↦ rw w.arena-is (all_stays c.args.arena.now)
    ] in
    let place = behind_stays (behind_none c.requires.place) c.else-not-has_room.arena stays in
    rw (← siblings_stay stays) (c.insert_at-none.ensures.puts (g.Q.BorrowedBytes.key c.args.key) (placed_of place)).0.put_is

pub returns-clause-trail : goal.returns-clause-trail
returns-clause-trail g c =
    let stays : Stays c.args.arena.now c.else-not-has_room.arena = elim c.else-not-has_room.branch [
      | else-not-has_room-via-then-not-has_room+else-is_err w ↦ rw w.arena-is w.extend.ensures.stays
      | else-not-has_room-via-else-not-has_room w ↦ rw w.arena-is (all_stays c.args.arena.now)
    ] in
    λ trail behind.
    let place = behind_stays behind c.else-not-has_room.arena stays in
    trail_to place c.insert_at-none.new.arena (c.insert_at-none.ensures.puts (g.Q.BorrowedBytes.key c.args.key) (placed_of place)).1
