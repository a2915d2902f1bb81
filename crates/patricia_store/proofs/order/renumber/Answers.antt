use Rattle.std.proofs.Common.{◌≡◌, ◌+◌, refl, arith}
use Rattle.std.proofs.lemmas.Option.{slice_get_read, IfSome_then}
use Rattle.patricia_store.specs.Internal.Packing.{most}
use Rattle.patricia_store.specs.Internal.Renumbering.{place_of, moved_head}
use Rattle.patricia_store.proofs.OrderLemmas.{heads_none, heads_next, heads_all}
use Rattle.patricia_store.proofs.order.renumber.Goals as goal

pub loop-id-init : goal.loop-id-init
loop-id-init c = record { items = heads_none c.args.places.now c.args.heads.now.items; capacity = refl }

pub move_links-requires-clause-child : goal.move_links-requires-clause-child
move_links-requires-clause-child c = c.moved_link-child.ensures.small (most + 1) (omega arith) c.child.ensures.small

pub move_links-requires-clause-sibling : goal.move_links-requires-clause-sibling
move_links-requires-clause-sibling c = c.moved_link-sibling.ensures.small (most + 1) (omega arith)
    (IfSome_then c.sibling.result c.sibling.ensures.small (λ id short. omega (arith, short)))

pub loop-id-preserved : goal.loop-id-preserved
loop-id-preserved c =
    let l = c.loop-id in
    let h = c.index_mut-head.result.now in
    let is : c.move_links.new.self ≡ moved_head (place_of c.args.places.now l.id + 1) c.args.places.now h =
    rw (c.move_links.ensures, c.place-next.ensures.value, c.moved_link-child.ensures.value, c.moved_link-sibling.ensures.value, c.child.ensures.value, c.sibling.ensures.value) refl in
    record {
      items = heads_next c.args.places.now c.args.heads.now.items l.id l.heads.items h c.move_links.new.self l.invariant.items
          (slice_get_read l.heads.items l.heads.len l.id h l.heads.ok.0 (omega (arith, c.loop-id-test.true)) c.index_mut-head.ensures.value) is;
      capacity = l.invariant.capacity;
    }

pub returns-clause-items : goal.returns-clause-items
returns-clause-items c =
    heads_all c.args.places.now c.args.heads.now.items c.loop-id.id c.loop-id.heads.items c.loop-id.invariant.items
    (omega (arith, c.loop-id-test.false, c.loop-id.invariant.items.long, c.loop-id.heads.ok.0))
