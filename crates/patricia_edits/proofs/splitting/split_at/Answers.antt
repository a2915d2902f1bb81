use Rattle.std.proofs.Common.{◌++◌, drop, length, ap, ◌∙◌}
use Rattle.patricia_nodes.proofs.SeekLemmas.{sought_at}
use Rattle.patricia_edits.proofs.RemoveLemmas.{on_err_from}
use Rattle.patricia_edits.proofs.SplitLemmas.{found, has_node, has_node_at, has_tree_at, some_under}
use Rattle.patricia_edits.proofs.SplitLemmas.{label_passed, splits_spared, splits_other}
use Rattle.patricia_edits.proofs.SplitLemmas.{other, both_short, other_lone, other_room}
use Rattle.patricia_edits.proofs.SplitLemmas.{other_absorbed}
use Rattle.patricia_edits.proofs.StayLemmas.{holds_stays, held_before, all_stays}
use Rattle.patricia_edits.proofs.splitting.split_at.Goals as goal

pub room_for-requires : goal.room_for-requires
room_for-requires g c =
    let f = found (sought_at g.met.Q.Owned.Bytes.lawful c.requires.whole c.requires.siblings c.requires.place) c.requires.under in
    record {
      node = has_node g.met.Q.Owned.Bytes.lawful f;
      passed = label_passed g.met.Q.Owned.Bytes.lawful f (length c.as_bytes-passed.result.now) (ap length c.as_bytes-passed.ensures.value);
    }

pub returns-in_err-room-clause-begun : goal.returns-in_err-room-clause-begun
returns-in_err-room-clause-begun g c =
    let f = found (sought_at g.met.Q.Owned.Bytes.lawful c.requires.whole c.requires.siblings c.requires.place) c.requires.under in
    on_err_from _ (some_under g.met.Q.Owned.Bytes.lawful f)

pub would_merge-requires : goal.would_merge-requires
would_merge-requires g c =
    let f = found (sought_at g.met.Q.Owned.Bytes.lawful c.requires.whole c.requires.siblings c.requires.place) c.requires.under in
    has_node_at g.met.Q.Owned.Bytes.lawful f

pub move_out-arena-requires : goal.move_out-arena-requires
move_out-arena-requires g c =
    let f = found (sought_at g.met.Q.Owned.Bytes.lawful c.requires.whole c.requires.siblings c.requires.place) c.requires.under in
    record {
      empty = c.in_ok-room.ensures.empty;
      tree = has_tree_at g.met.Q.Owned.Bytes.lawful f c.args.arena.now (all_stays c.args.arena.now) _ _ c.in_ok-room.ensures.counted;
      passed = label_passed g.met.Q.Owned.Bytes.lawful f (length c.as_bytes-passed.result.now) (ap length c.as_bytes-passed.ensures.value);
      bytes = c.in_ok-room.ensures.bytes;
    }

pub returns-in_default-clause-ok : goal.returns-in_default-clause-ok
returns-in_default-clause-ok g c =
    let f = found (sought_at g.met.Q.Owned.Bytes.lawful c.requires.whole c.requires.siblings c.requires.place) c.requires.under in
    let passed = (ap length c.as_bytes-passed.ensures.value) in
    let top = ap (λ xs. xs ++ drop (length c.as_bytes-passed.result.now) f.label) c.as_bytes-front.ensures.value ∙ ap (λ n. g.Q.BorrowedBytes.key c.args.prefix ++ drop n f.label) passed in
    let m = c.move_out-arena.ensures.moves f.frames f.label f.value f.child f.sibling f.at.link_ref_is f.at.holds in
    let counted = c.in_ok-room.ensures.counted f.frames f.label f.value f.child f.sibling f.at.holds in
    splits_spared g.met.Q.Owned.Bytes.lawful f _ top c.in_ok-room.count counted.1 c.move_out-arena.result m.1.0 m.1.1 m.1.2
    c.move_out-arena.new.arena m.0 (rw c.in_default.is at c.would_merge.ensures)

pub reserve_joined-requires : goal.reserve_joined-requires
reserve_joined-requires g c =
    let f = found (sought_at g.met.Q.Owned.Bytes.lawful c.requires.whole c.requires.siblings c.requires.place) c.requires.under in
    let both = both_short g.met.Q.Owned.Bytes.lawful f c.in-Some.alone.0 c.in-Some.alone.1 (rw c.in-Some.is at c.would_merge.ensures) in
    record { upper = both.0; lower = both.1 }

pub returns-in_err-reserve_joined-clause-begun : goal.returns-in_err-reserve_joined-clause-begun
returns-in_err-reserve_joined-clause-begun g c =
    let f = found (sought_at g.met.Q.Owned.Bytes.lawful c.requires.whole c.requires.siblings c.requires.place) c.requires.under in
    on_err_from _ (some_under g.met.Q.Owned.Bytes.lawful f)

pub move_out-taken-requires : goal.move_out-taken-requires
move_out-taken-requires g c =
    let f = found (sought_at g.met.Q.Owned.Bytes.lawful c.requires.whole c.requires.siblings c.requires.place) c.requires.under in
    let stays = c.reserve_joined.ensures.stays in
    record {
      empty = c.in_ok-room.ensures.empty;
      tree = has_tree_at g.met.Q.Owned.Bytes.lawful f c.reserve_joined.new.self stays _ _ c.in_ok-room.ensures.counted;
      passed = rw stays.nodes_is (label_passed g.met.Q.Owned.Bytes.lawful f (length c.as_bytes-passed.result.now) (ap length c.as_bytes-passed.ensures.value));
      bytes = λ fs l v child d holds. c.in_ok-room.ensures.bytes fs l v child d (held_before stays holds);
    }

pub merge_only_child-none-requires : goal.merge_only_child-none-requires
merge_only_child-none-requires g c =
    let f = found (sought_at g.met.Q.Owned.Bytes.lawful c.requires.whole c.requires.siblings c.requires.place) c.requires.under in
    let alone = rw c.in-Some.is at c.would_merge.ensures in
    let stays = c.reserve_joined.ensures.stays in
    let m = c.move_out-taken.ensures.moves f.frames f.label f.value f.child f.sibling f.at.link_ref_is (holds_stays stays f.at.holds) in
    record {
      lone = other_lone g.met.Q.Owned.Bytes.lawful f c.in-Some.alone.0 c.in-Some.alone.1 alone c.move_out-taken.new.arena m.0;
      room = other_room g.met.Q.Owned.Bytes.lawful f c.in-Some.alone.0 c.in-Some.alone.1 alone c.move_out-taken.new.arena m.0
          c.reserve_joined.new.self.nodes stays.nodes_is c.in_ok-reserve_joined.ensures.room c.move_out-taken.ensures.room;
    }

pub returns-clause-ok : goal.returns-clause-ok
returns-clause-ok g c =
    let f = found (sought_at g.met.Q.Owned.Bytes.lawful c.requires.whole c.requires.siblings c.requires.place) c.requires.under in
    let passed = (ap length c.as_bytes-passed.ensures.value) in
    let top = ap (λ xs. xs ++ drop (length c.as_bytes-passed.result.now) f.label) c.as_bytes-front.ensures.value ∙ ap (λ n. g.Q.BorrowedBytes.key c.args.prefix ++ drop n f.label) passed in
    let stays = c.reserve_joined.ensures.stays in
    let m = c.move_out-taken.ensures.moves f.frames f.label f.value f.child f.sibling f.at.link_ref_is (holds_stays stays f.at.holds) in
    let counted = c.in_ok-room.ensures.counted f.frames f.label f.value f.child f.sibling f.at.holds in
    let alone = rw c.in-Some.is at c.would_merge.ensures in
    let upper = c.in-Some.alone.0 in
    let lower = c.in-Some.alone.1 in
    let held =
    other_absorbed g.met.Q.Owned.Bytes.lawful f upper lower alone c.move_out-taken.new.arena c.merge_only_child-none.new.self
    c.merge_only_child-none.result m.0 c.merge_only_child-none.ensures in
    splits_other g.met.Q.Owned.Bytes.lawful f _ top c.in_ok-room.count counted.1 c.move_out-taken.result m.1.0 m.1.1 m.1.2
    upper lower (other g.met.Q.Owned.Bytes.lawful f upper lower alone) c.merge_only_child-none.new.self held
