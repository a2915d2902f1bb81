use Rattle.std.proofs.Common.{[], take, sym, ap, ◌∙◌, arith, length}
use Rattle.std.proofs.lemmas.List.{length-append, length-take, take-take}
use Rattle.patricia_nodes.specs.Internal.Plans.{siblings_in}
use Rattle.patricia_nodes.proofs.LayLemmas.{same_siblings}
use Rattle.patricia_nodes.proofs.PlanLemmas.{plan_is}
use Rattle.patricia_nodes.proofs.RenumberLemmas.{lists_long, lists_order, renamed, siblings-renamed, sound_used}
use Rattle.patricia_nodes.proofs.WriteLemmas.{one_chain}
use Rattle.patricia_nodes.proofs.arena.NodeArena.relocate_nodes.Goals as goal

pub inverse-requires-clause-once : goal.inverse-requires-clause-once
inverse-requires-clause-once g c =
    let sound = c.requires.1.1 in
    let lists = c.in_ok-order.ensures.lists _ _ sound in
    rw c.as_slice.ensures.value (lists_order _ _ _ _ _ _ _ sound lists)

pub inverse-requires-clause-short : goal.inverse-requires-clause-short
inverse-requires-clause-short g c =
    let sound = c.requires.1.1 in
    let lists = c.in_ok-order.ensures.lists _ _ sound in
    omega (arith, ap length c.as_slice.ensures.value, lists_long _ _ _ _ _ _ _ sound lists, c.in_ok-order.ensures.few)

pub rearrange-requires-clause-long : goal.rearrange-requires-clause-long
rearrange-requires-clause-long g c =
    let sound = c.requires.1.1 in
    let lists = c.in_ok-order.ensures.lists _ _ sound in
    omega (arith, lists_long _ _ _ _ _ _ _ sound lists)

pub returns-clause-whole : goal.returns-clause-whole
returns-clause-whole g c =
    let used = c.in_ok-order.used in
    let all = c.rearrange.ensures.items in
    let kept = c.keep_first.ensures.items ∙ ap (take used) all.2 ∙ take-take used used all.0 (omega arith) in
    let sound = c.requires.1.1 in
    let lists = c.in_ok-order.ensures.lists _ _ sound in
    let inv = rw c.as_slice.ensures.value at c.in_ok-places.ensures in (
      renamed c.in_ok-places.places.items c.requires.0,
      (
        [],
        rw (kept, c.moved_link-self.ensures, c.as_slice-2.ensures.value, c.none-self.ensures)
            (sound_used c.in_ok-order.order.items c.in_ok-places.places.items inv c.args.self.now.nodes.items
            all.0 (lists_long _ _ _ _ _ _ _ sound lists) all.1
            _ _ c.requires.0 c.requires.1.0 used sound lists),
      ),
    )

pub returns-clause-siblings : goal.returns-clause-siblings
returns-clause-siblings g c =
    let used = c.in_ok-order.used in
    let all = c.rearrange.ensures.items in
    let kept = c.keep_first.ensures.items ∙ ap (take used) all.2 ∙ take-take used used all.0 (omega arith) in
    let sound = c.requires.1.1 in
    let lists = c.in_ok-order.ensures.lists _ _ sound in
    let inv = rw c.as_slice.ensures.value at c.in_ok-places.ensures in
    rw (kept, c.moved_link-self.ensures, c.as_slice-2.ensures.value)
    (same_siblings _ _ _ (renamed c.in_ok-places.places.items c.requires.0) c.requires.0 []
    (sound_used c.in_ok-order.order.items c.in_ok-places.places.items inv c.args.self.now.nodes.items
    all.0 (lists_long _ _ _ _ _ _ _ sound lists) all.1
    _ _ c.requires.0 c.requires.1.0 used sound lists)
    (siblings-renamed c.in_ok-places.places.items c.requires.0))
    ∙ sym (ap (λ p. siblings_in p) (plan_is _ _ c.requires.0 sound.plan_ok))

pub returns-clause-room : goal.returns-clause-room
returns-clause-room g c = record {
  nodes_fit = λ room.
      let sound = c.requires.1.1 in
      let lists = c.in_ok-order.ensures.lists _ _ sound in
      let same = one_chain c.args.self.now.nodes.items room.0 c.requires.1.0 room.1.0 sound.chain (sym room.1.1 ∙ sound.free_is) in
      let used = c.in_ok-order.used in
      let all = c.rearrange.ensures.items in
      let left = ap length all.2 ∙ length-take used all.0 in
      let kept = ap length c.keep_first.ensures.items ∙ length-take used c.rearrange.new.self.items in
      let long = lists_long _ _ _ _ _ _ _ sound lists in
      let parts = ap length lists.order_is ∙ length-append lists.first c.requires.1.0 in
      let after = c.keep_first.ensures.capacity
      (omega (arith, room.2, ap length same, kept, long, parts, lists.used_is, left, all.1.long, c.rearrange.ensures.room.capacity_is)) in
      ([], (tt, c.none-self.ensures), omega (arith, after));
  bytes_fit = omega (arith, c.rearrange.ensures.room.room_is, c.keep_first.ensures.room);
}
