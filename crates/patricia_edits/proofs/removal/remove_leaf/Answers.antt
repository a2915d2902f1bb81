use Rattle.std.proofs.Common.{refl}
use Rattle.patricia_edits.proofs.LeafLemmas.{leaf_stands, leaf_at, leaf_value, leaf_spared}
use Rattle.patricia_edits.proofs.LeafLemmas.{both_within, leaf_joins, leaf_lone, leaf_left}
use Rattle.patricia_edits.proofs.LeafLemmas.{leaf_room, leaf_kept, left_kept}
use Rattle.patricia_edits.proofs.RemoveLemmas.{on_err_from, place_at, place_here}
use Rattle.patricia_edits.proofs.StayLemmas.{leaf_stays, unlinks_stay}
use Rattle.patricia_edits.proofs.removal.remove_leaf.Goals as goal

pub would_merge-requires : goal.would_merge-requires
would_merge-requires g c = leaf_stands (place_here g.met.K.Bytes.lawful c.requires.ready) refl c.requires.leaf c.requires.valued

pub unlink-requires : goal.unlink-requires
unlink-requires g c = leaf_at (place_here g.met.K.Bytes.lawful c.requires.ready) refl c.requires.leaf c.requires.valued

pub returns-in_default-clause-ok : goal.returns-in_default-clause-ok
returns-in_default-clause-ok g c key p =
    let here = place_at g.met.K.Bytes.lawful c.requires.ready key p in
    leaf_spared here refl c.requires.leaf c.requires.valued c.unlink.new.self
    c.unlink.result (rw c.in_default.is at c.would_merge.ensures) c.unlink.ensures.unlinks

pub returns-in_default-clause-value : goal.returns-in_default-clause-value
returns-in_default-clause-value g c =
    let here = place_here g.met.K.Bytes.lawful c.requires.ready in
    leaf_value here refl c.requires.leaf c.requires.valued c.unlink.new.self c.unlink.result c.unlink.ensures.unlinks

pub reserve_joined-requires : goal.reserve_joined-requires
reserve_joined-requires g c =
    let here = place_here g.met.K.Bytes.lawful c.requires.ready in
    let both = both_within here refl c.requires.leaf c.requires.valued c.in-Some.alone.0
    c.in-Some.alone.1 (rw c.in-Some.is at c.would_merge.ensures) in
    record { upper = both.0; lower = both.1 }

pub returns-in_err-reserve_joined-clause-joins : goal.returns-in_err-reserve_joined-clause-joins
returns-in_err-reserve_joined-clause-joins g c =
    on_err_from c.from_residual.result (λ key p.
    let here = place_at g.met.K.Bytes.lawful c.requires.ready key p in
    leaf_joins here refl c.requires.leaf c.requires.valued c.in-Some.alone.0 c.in-Some.alone.1 (rw c.in-Some.is at c.would_merge.ensures))

pub unlink-taken-requires : goal.unlink-taken-requires
unlink-taken-requires g c =
    leaf_stays c.reserve_joined.ensures.stays
    (leaf_at (place_here g.met.K.Bytes.lawful c.requires.ready) refl c.requires.leaf c.requires.valued)

pub merge_only_child-none-requires : goal.merge_only_child-none-requires
merge_only_child-none-requires g c =
    let here = place_here g.met.K.Bytes.lawful c.requires.ready in
    let alone = rw c.in-Some.is at c.would_merge.ensures in
    let unlinks = unlinks_stay c.reserve_joined.ensures.stays c.unlink-taken.new.self c.args.at.now.link_ref c.args.at.now.id c.unlink-taken.result c.unlink-taken.ensures.unlinks in
    record {
      lone = leaf_lone here refl c.requires.leaf c.requires.valued c.in-Some.alone.0 c.in-Some.alone.1
          alone c.unlink-taken.new.self c.unlink-taken.result unlinks;
      room = leaf_room here refl c.requires.leaf c.requires.valued c.in-Some.alone.0 c.in-Some.alone.1
          alone c.unlink-taken.new.self c.unlink-taken.result unlinks c.reserve_joined.new.self.nodes
          c.reserve_joined.ensures.stays.nodes_is c.in_ok-reserve_joined.ensures.room c.unlink-taken.ensures.room;
    }

pub returns-clause-ok : goal.returns-clause-ok
returns-clause-ok g c key p =
    let here = place_at g.met.K.Bytes.lawful c.requires.ready key p in
    leaf_left here refl c.requires.leaf c.requires.valued c.in-Some.alone.0 c.in-Some.alone.1
    (rw c.in-Some.is at c.would_merge.ensures) c.unlink-taken.new.self c.unlink-taken.result
    (unlinks_stay c.reserve_joined.ensures.stays c.unlink-taken.new.self c.args.at.now.link_ref c.args.at.now.id c.unlink-taken.result c.unlink-taken.ensures.unlinks)
    c.merge_only_child-none.new.self c.merge_only_child-none.result c.merge_only_child-none.ensures

pub returns-clause-value : goal.returns-clause-value
returns-clause-value g c =
    let here = place_here g.met.K.Bytes.lawful c.requires.ready in
    leaf_value here refl c.requires.leaf c.requires.valued c.unlink-taken.new.self c.unlink-taken.result
    (unlinks_stay c.reserve_joined.ensures.stays c.unlink-taken.new.self c.args.at.now.link_ref c.args.at.now.id c.unlink-taken.result c.unlink-taken.ensures.unlinks)

pub returns-in_default-clause-around : goal.returns-in_default-clause-around
returns-in_default-clause-around g c key p =
    let here = place_at g.met.K.Bytes.lawful c.requires.ready key p in
    (leaf_kept here refl c.requires.leaf c.requires.valued c.unlink.new.self c.unlink.result c.unlink.ensures.unlinks, λ none. absurd (cc))

pub returns-clause-around : goal.returns-clause-around
returns-clause-around g c key p =
    let here = place_at g.met.K.Bytes.lawful c.requires.ready key p in (
      left_kept here refl c.requires.leaf c.requires.valued c.in-Some.alone.0 c.in-Some.alone.1
          (rw c.in-Some.is at c.would_merge.ensures) c.unlink-taken.new.self c.unlink-taken.result
          (unlinks_stay c.reserve_joined.ensures.stays c.unlink-taken.new.self c.args.at.now.link_ref c.args.at.now.id c.unlink-taken.result c.unlink-taken.ensures.unlinks)
          c.merge_only_child-none.new.self c.merge_only_child-none.result c.merge_only_child-none.ensures,
      λ _. c.requires.leaf,
    )
