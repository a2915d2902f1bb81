use Rattle.std.proofs.Common.{◌<◌, length, refl, ◌∙◌, arith}
use Rattle.std.proofs.lemmas.Option.{slice_get_read, slice_get_within}
use Rattle.patricia_store.proofs.PermuteLemmas.{permuting_none, permuting_next, permuting_all}
use Rattle.patricia_store.proofs.order.permute.Goals as goal

pub loop-i-init : goal.loop-i-init
loop-i-init g c = record {
  heads = permuting_none c.args.order.items c.args.places.items c.args.heads.now.items c.requires.inverse (c.requires.heads ∙ c.args.heads.now.ok.0);
  bodies = permuting_none c.args.order.items c.args.places.items c.args.bodies.now.items c.requires.inverse (c.requires.bodies ∙ c.args.bodies.now.ok.0);
  heads_capacity = refl;
  bodies_capacity = refl;
}

pub swap-requires-clause-j_in_bounds : goal.swap-requires-clause-j_in_bounds
swap-requires-clause-j_in_bounds g c =
    let l = c.loop-i in
    let p = l.invariant.heads in
    let short : l.i < length l.order.items = omega (arith, c.loop-i-test.true, p.order_long, p.long, l.heads.ok.0) in
    let from = slice_get_read l.order.items (length l.order.items) l.i _ refl short c.index-from.ensures in
    omega (arith, slice_get_within l.places.items _ _ (p.place l.i _ (omega arith) from).1, p.places_long, p.long, l.heads.ok.0)

pub swap-requires-in-loop-i-clause-j_in_bounds : goal.swap-requires-in-loop-i-clause-j_in_bounds
swap-requires-in-loop-i-clause-j_in_bounds g c =
    let l = c.loop-i in
    let p = l.invariant.heads in
    let q = l.invariant.bodies in
    let short : l.i < length l.order.items = omega (arith, c.loop-i-test.true, p.order_long, p.long, l.heads.ok.0) in
    let from = slice_get_read l.order.items (length l.order.items) l.i _ refl short c.index-from.ensures in
    omega (arith, slice_get_within l.places.items _ _ (q.place l.i _ (omega arith) from).1, q.places_long, q.long, l.bodies.ok.0)

pub index_mut-requires : goal.index_mut-requires
index_mut-requires g c =
    let l = c.loop-i in
    let p = l.invariant.heads in
    let short : l.i < length l.places.items = omega (arith, c.loop-i-test.true, p.places_long, p.long, l.heads.ok.0) in
    let to = slice_get_read l.places.items (length l.places.items) l.i _ refl short c.index-to.ensures in
    omega (arith, slice_get_within l.order.items _ _ (p.number _ l.i (omega arith) to).1, l.order.ok.0)

pub index_mut-requires-in-loop-i : goal.index_mut-requires-in-loop-i
index_mut-requires-in-loop-i g c =
    let l = c.loop-i in
    let p = l.invariant.heads in
    let short : l.i < length l.order.items = omega (arith, c.loop-i-test.true, p.order_long, p.long, l.heads.ok.0) in
    let from = slice_get_read l.order.items (length l.order.items) l.i _ refl short c.index-from.ensures in
    omega (arith, slice_get_within l.places.items _ _ (p.place l.i _ (omega arith) from).1, l.places.ok.0)

pub loop-i-preserved : goal.loop-i-preserved
loop-i-preserved g c =
    let l = c.loop-i in
    let p = l.invariant.heads in
    let short : l.i < length l.order.items = omega (arith, c.loop-i-test.true, p.order_long, p.long, l.heads.ok.0) in
    let fits : l.i < length l.places.items = omega (arith, c.loop-i-test.true, p.places_long, p.long, l.heads.ok.0) in
    let from = slice_get_read l.order.items (length l.order.items) l.i _ refl short c.index-from.ensures in
    let to = slice_get_read l.places.items (length l.places.items) l.i _ refl fits c.index-to.ensures in
    record {
      heads = rw c.swap.ensures.items
          (permuting_next c.args.order.items c.args.heads.now.items l.i l.order.items l.places.items l.heads.items
          c.index-from.result.now c.index-to.result.now p from to);
      bodies = rw c.swap-in-loop-i.ensures.items
          (permuting_next c.args.order.items c.args.bodies.now.items l.i l.order.items l.places.items l.bodies.items
          c.index-from.result.now c.index-to.result.now l.invariant.bodies from to);
      heads_capacity = c.swap.ensures.capacity ∙ l.invariant.heads_capacity;
      bodies_capacity = c.swap-in-loop-i.ensures.capacity ∙ l.invariant.bodies_capacity;
    }

pub returns-clause-heads : goal.returns-clause-heads
returns-clause-heads g c =
    let v = c.args.heads.now in
    permuting_all c.args.order.items v.items c.loop-i.i _ _ c.loop-i.heads.items c.loop-i.invariant.heads (c.requires.heads ∙ v.ok.0)
    (omega (arith, c.loop-i-test.false, c.loop-i.invariant.heads.long, c.loop-i.heads.ok.0))

pub returns-clause-bodies : goal.returns-clause-bodies
returns-clause-bodies g c =
    let v = c.args.bodies.now in
    permuting_all c.args.order.items v.items c.loop-i.i _ _ c.loop-i.bodies.items c.loop-i.invariant.bodies (c.requires.bodies ∙ v.ok.0)
    (omega (arith, c.loop-i-test.false, c.loop-i.invariant.heads.long, c.loop-i.heads.ok.0, c.requires.heads, c.requires.bodies, c.args.heads.now.ok.0, v.ok.0))
