use Rattle.std.proofs.Common.{arith}
use Rattle.std.proofs.lemmas.Option.{slice_get-get_or}
use Rattle.patricia_nodes.proofs.PermuteLemmas.{order_short, placed_next, placed_all}
use Rattle.patricia_nodes.proofs.arena.order.inverse.Goals as goal

pub index_mut-requires : goal.index_mut-requires
index_mut-requires c =
    let at = slice_get-get_or c.args.order.now c.loop-i.i 0 c.loop-i-test.true in
    let short = order_short c.args.order.now c.loop-i.i _ c.requires.once at in
    omega (arith, short, c.loop-i.invariant.long, c.loop-i.places.ok.0)

pub loop-i-preserved : goal.loop-i-preserved
loop-i-preserved c =
    placed_next c.args.order.now c.loop-i.places.items c.loop-i.i _ c.requires.once c.loop-i.invariant
    (slice_get-get_or c.args.order.now c.loop-i.i 0 c.loop-i-test.true)

pub returns : goal.returns
returns c =
    placed_all c.args.order.now c.loop-i.places.items c.loop-i.i c.requires.once c.loop-i.invariant
    (omega (arith, c.loop-i-test.false))
